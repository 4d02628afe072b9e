use Rattle.std.proofs.Common.{◌≡◌, refl, ap, sym, ◌∙◌, subst}
use Rattle.std.specs.Prelude.{IsSome}
use Rattle.scene_model.specs.Items.{with_thing_at, without_at, name_of_thing, stands, thing_at}
use Rattle.scene_model.proofs.Places.{item_found, put_back-taken}
use Rattle.scene_model.proofs.AllNames.{free-without_at}
use Rattle.scene_model.proofs.scene.Scene.take.Goals as goal

pub take_at-thing-requires-clause-stands : goal.take_at-thing-requires-clause-stands
take_at-thing-requires-clause-stands c =
    let found = item_found c.args.self.now c.args.name.now c.unwrap-item.result (sym c.lookup.ensures.value ∙ c.unwrap-item.ensures) in
    subst IsSome (sym found.1) refl

pub returns-clause-named : goal.returns-clause-named
returns-clause-named c =
    let found = item_found c.args.self.now c.args.name.now c.unwrap-item.result (sym c.lookup.ensures.value ∙ c.unwrap-item.ensures) in
    let same : c.take_at-thing.result ≡ found.0 = cc in
    ap name_of_thing same ∙ found.2

pub returns-clause-back : goal.returns-clause-back
returns-clause-back c =
    let item = c.unwrap-item.result in
    let thing = c.take_at-thing.result in
    ap (λ d. with_thing_at d item.at thing) c.take_at-thing.ensures.others
    ∙ (ap (λ s. with_thing_at (without_at c.args.self.now s item.at) item.at thing) (sym c.take_at-thing.ensures.sort)
    ∙ put_back-taken c.args.self.now item.at thing (ap (λ s. thing_at c.args.self.now s item.at) c.take_at-thing.ensures.sort ∙ c.take_at-thing.ensures.taken))

pub returns-clause-free : goal.returns-clause-free
returns-clause-free c =
    let item = c.unwrap-item.result in
    let thing = c.take_at-thing.result in
    let found = item_found c.args.self.now c.args.name.now item (sym c.lookup.ensures.value ∙ c.unwrap-item.ensures) in
    let same : thing ≡ found.0 = cc in
    let there = ap (λ s. thing_at c.args.self.now s item.at) c.take_at-thing.ensures.sort ∙ c.take_at-thing.ensures.taken in
    ap (stands c.take_at-thing.new.self) (sym (ap name_of_thing same ∙ found.2))
    ∙ (ap (λ d. stands d (name_of_thing thing)) c.take_at-thing.ensures.others
    ∙ (ap (λ s. stands (without_at c.args.self.now s item.at) (name_of_thing thing)) (sym c.take_at-thing.ensures.sort)
    ∙ free-without_at c.args.self.now item.at thing c.count-count.ensures.sound.distinct there))
