use Rattle.std.proofs.Common.{◌≡◌, ◌≤◌, ℕ, length, Option, Some, None, refl, ap, sym, ◌∙◌, subst, arith, slice_get}
use Rattle.std.specs.Prelude.{IsSome, option_copied}
use Rattle.std.specs.Option.{option_map}
use Rattle.std.proofs.lemmas.Option.{slice_get_within}
use Rattle.scene_model.specs.declared.items.Page.{Page}
use Rattle.scene_model.specs.declared.items.Sort.TheVariants as sort
use Rattle.scene_model.specs.declared.items.Thing.TheVariants as thing
use Rattle.scene_model.specs.Diagram.{Diagram}
use Rattle.scene_model.specs.Items.{thing_at}
use Rattle.scene_model.specs.Sound.{IsSound}
use Rattle.undo_store.proofs.copies.copy_of_item.Goals as goal

-- a page that stands is the first, since there is no other
first_page : (d : Diagram) (at : ℕ) (p : Page) → IsSound d → IsSome (thing_at d sort.Page at) → slice_get d.pages 0 ≡ Some p → thing_at d sort.Page at ≡ Some (thing.Page p)
first_page d at p sound stands first = by (slice_get d.pages at) refl stands
  where
    by : (o : Option Page) → slice_get d.pages at ≡ o → IsSome (option_map thing.Page o) → thing_at d sort.Page at ≡ Some (thing.Page p)
    by None is some = cc
    by (Some q) is some =
        let within = slice_get_within d.pages at q is in
        let one : length d.pages ≤ 1 = sound.counts.pages in
        let zero : at ≡ 0 = omega (arith, within, one) in
        ap (λ k. thing_at d sort.Page k) zero ∙ ap (option_map thing.Page) first

pub returns-in-Page : goal.returns-in-Page
returns-in-Page c =
    let d = c.args.scene.now in
    let stands = subst (λ s. IsSome (thing_at d s c.args.item.at)) c.in-Page.is c.requires in
    ap (λ s. thing_at d s c.args.item.at) c.in-Page.is
    ∙ first_page d c.args.item.at c.unwrap.result.now c.count-pages.ensures.sound stands (sym c.page.ensures.value ∙ ap option_copied c.unwrap.ensures)
