use Rattle.std.proofs.Common.{◌∙◌, ap, sym, subst}
use Rattle.std.specs.Prelude.{◌↔◌, IsTrue, option_copied}
use Rattle.std.specs.List.{AllByRecursion}
use Rattle.scene_model.specs.Meaning.{MeetsPage}
use Rattle.scene_model.proofs.Positions.{only_one}
use Rattle.compound_sense.proofs.placed.Placed.meets_pages.Goals as goal

pub returns : goal.returns
returns c =
    let d = c.args.self.now.scene.now in
    let at = sym c.page.ensures.value ∙ ap option_copied c.unwrap.ensures in
    let one = only_one d.pages c.unwrap.result.now c.count.ensures.sound.counts.pages at in
    let meaning = c.meets_page.ensures in
    subst (λ pages. IsTrue c.meets_page.result ↔ AllByRecursion (MeetsPage d c.args.self.now.axis c.args.self.now.places.now c.args.self.now.denominator) pages) (sym one) (λ h. (meaning.0 h, tt), λ h. meaning.1 h.0)
