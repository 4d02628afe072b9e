use Rattle.std.proofs.Common.{◌+◌, ◌*◌, ◌∙◌, ℕ, Bool, ap, sym, length, refl}
use Rattle.std.specs.Prelude.{if◌then◌else◌}
use Rattle.sep_gen.proofs.Additions.{with_page}
use Rattle.sep_gen.proofs.adding.count_with_page.Goals as goal

pub returns : goal.returns
returns c = λ page rigid. with_page c.args.scene.now c.args.axis c.count.result c.count.ensures.value page c.of_paged.result _ (c.of_paged.ensures.value ∙ ap (λ (n : ℕ). 2 * n + (if c.args.rigid then 2 else 1)) c.count-2.ensures.value ∙ ap (λ (b : Bool). 2 * length c.args.scene.now.shapes + (if b then 2 else 1)) (sym rigid)) refl
