use Rattle.std.proofs.Common.{◌≡◌, sym, subst, ap, ◌∙◌, true}
use Rattle.std.specs.List.{list_any}
use Rattle.scene_model.specs.declared.items.Sort.TheVariants as sort
use Rattle.scene_model.specs.declared.items.Thing.TheVariants as thing
use Rattle.scene_model.specs.Names.{same_name}
use Rattle.scene_model.specs.Diagram.{Diagram, sort_names}
use Rattle.scene_model.specs.Sound.{IsSound}
use Rattle.scene_model.specs.Items.{with_replaced}
use Rattle.scene_model.proofs.Places.{thing_stands}
use Rattle.scene_model.proofs.AllNames.{sort_distinct}
use Rattle.scene_model.proofs.scene.Scene.set.Goals as goal

pub set-requires-clause-distinct : goal.set-requires-clause-distinct
set-requires-clause-distinct c = sort_distinct _ sort.Shape c.self.invariant.distinct

pub set-requires-clause-stands : goal.set-requires-clause-stands
set-requires-clause-stands c =
    subst (λ (d : Diagram). list_any (same_name c.in-Shape.shape.name) (sort_names d sort.Shape) ≡ true) (sym c.self.view_is)
    (thing_stands c.args.self.now c.args.thing (thing.Shape c.in-Shape.shape) c.in-Shape.is c.requires.stands)

pub invariant_of-self : goal.invariant_of-self
invariant_of-self c =
    subst IsSound
    (sym
    (ap (λ xs. record { shapes = xs; guides = c.self.inside.guides; links = c.self.inside.links; compounds = c.self.inside.compounds; groups = c.self.inside.groups; pages = c.self.inside.pages }) c.set.ensures
    ∙ (ap (λ (d : Diagram). with_replaced d (thing.Shape c.in-Shape.shape)) c.self.view_is ∙ ap (with_replaced c.args.self.now) (sym c.in-Shape.is))))
    c.requires.sound

pub set-requires-in-Guide-clause-distinct : goal.set-requires-in-Guide-clause-distinct
set-requires-in-Guide-clause-distinct c = sort_distinct _ sort.Guide c.self.invariant.distinct

pub set-requires-in-Guide-clause-stands : goal.set-requires-in-Guide-clause-stands
set-requires-in-Guide-clause-stands c =
    subst (λ (d : Diagram). list_any (same_name c.in-Guide.guide.name) (sort_names d sort.Guide) ≡ true) (sym c.self.view_is)
    (thing_stands c.args.self.now c.args.thing (thing.Guide c.in-Guide.guide) c.in-Guide.is c.requires.stands)

pub invariant_of-self-in-Guide : goal.invariant_of-self-in-Guide
invariant_of-self-in-Guide c =
    subst IsSound
    (sym
    (ap (λ xs. record { shapes = c.self.inside.shapes; guides = xs; links = c.self.inside.links; compounds = c.self.inside.compounds; groups = c.self.inside.groups; pages = c.self.inside.pages }) c.set-in-Guide.ensures
    ∙ (ap (λ (d : Diagram). with_replaced d (thing.Guide c.in-Guide.guide)) c.self.view_is ∙ ap (with_replaced c.args.self.now) (sym c.in-Guide.is))))
    c.requires.sound

pub set-requires-in-Link-clause-distinct : goal.set-requires-in-Link-clause-distinct
set-requires-in-Link-clause-distinct c = sort_distinct _ sort.Link c.self.invariant.distinct

pub set-requires-in-Link-clause-stands : goal.set-requires-in-Link-clause-stands
set-requires-in-Link-clause-stands c =
    subst (λ (d : Diagram). list_any (same_name c.in-Link.link.name) (sort_names d sort.Link) ≡ true) (sym c.self.view_is)
    (thing_stands c.args.self.now c.args.thing (thing.Link c.in-Link.link) c.in-Link.is c.requires.stands)

pub invariant_of-self-in-Link : goal.invariant_of-self-in-Link
invariant_of-self-in-Link c =
    subst IsSound
    (sym
    (ap (λ xs. record { shapes = c.self.inside.shapes; guides = c.self.inside.guides; links = xs; compounds = c.self.inside.compounds; groups = c.self.inside.groups; pages = c.self.inside.pages }) c.set-in-Link.ensures
    ∙ (ap (λ (d : Diagram). with_replaced d (thing.Link c.in-Link.link)) c.self.view_is ∙ ap (with_replaced c.args.self.now) (sym c.in-Link.is))))
    c.requires.sound

pub returns-in-Link : goal.returns-in-Link
returns-in-Link c =
    ap (λ xs. record { shapes = c.self.inside.shapes; guides = c.self.inside.guides; links = xs; compounds = c.self.inside.compounds; groups = c.self.inside.groups; pages = c.self.inside.pages }) c.set-in-Link.ensures
    ∙ (ap (λ (d : Diagram). with_replaced d (thing.Link c.in-Link.link)) c.self.view_is ∙ ap (with_replaced c.args.self.now) (sym c.in-Link.is))

pub set-requires-in-Compound-clause-distinct : goal.set-requires-in-Compound-clause-distinct
set-requires-in-Compound-clause-distinct c = sort_distinct _ sort.Compound c.self.invariant.distinct

pub set-requires-in-Compound-clause-stands : goal.set-requires-in-Compound-clause-stands
set-requires-in-Compound-clause-stands c =
    subst (λ (d : Diagram). list_any (same_name c.in-Compound.compound.name) (sort_names d sort.Compound) ≡ true) (sym c.self.view_is)
    (thing_stands c.args.self.now c.args.thing (thing.Compound c.in-Compound.compound) c.in-Compound.is c.requires.stands)

pub invariant_of-self-in-Compound : goal.invariant_of-self-in-Compound
invariant_of-self-in-Compound c =
    subst IsSound
    (sym
    (ap (λ xs. record { shapes = c.self.inside.shapes; guides = c.self.inside.guides; links = c.self.inside.links; compounds = xs; groups = c.self.inside.groups; pages = c.self.inside.pages }) c.set-in-Compound.ensures
    ∙ (ap (λ (d : Diagram). with_replaced d (thing.Compound c.in-Compound.compound)) c.self.view_is ∙ ap (with_replaced c.args.self.now) (sym c.in-Compound.is))))
    c.requires.sound

pub set-requires-in-Group-clause-distinct : goal.set-requires-in-Group-clause-distinct
set-requires-in-Group-clause-distinct c = sort_distinct _ sort.Group c.self.invariant.distinct

pub set-requires-in-Group-clause-stands : goal.set-requires-in-Group-clause-stands
set-requires-in-Group-clause-stands c =
    subst (λ (d : Diagram). list_any (same_name c.in-Group.group.name) (sort_names d sort.Group) ≡ true) (sym c.self.view_is)
    (thing_stands c.args.self.now c.args.thing (thing.Group c.in-Group.group) c.in-Group.is c.requires.stands)

pub invariant_of-self-in-Group : goal.invariant_of-self-in-Group
invariant_of-self-in-Group c =
    subst IsSound
    (sym
    (ap (λ xs. record { shapes = c.self.inside.shapes; guides = c.self.inside.guides; links = c.self.inside.links; compounds = c.self.inside.compounds; groups = xs; pages = c.self.inside.pages }) c.set-in-Group.ensures
    ∙ (ap (λ (d : Diagram). with_replaced d (thing.Group c.in-Group.group)) c.self.view_is ∙ ap (with_replaced c.args.self.now) (sym c.in-Group.is))))
    c.requires.sound

pub set-requires-in-Page-clause-distinct : goal.set-requires-in-Page-clause-distinct
set-requires-in-Page-clause-distinct c = sort_distinct _ sort.Page c.self.invariant.distinct

pub set-requires-in-Page-clause-stands : goal.set-requires-in-Page-clause-stands
set-requires-in-Page-clause-stands c =
    subst (λ (d : Diagram). list_any (same_name c.in-Page.page.name) (sort_names d sort.Page) ≡ true) (sym c.self.view_is)
    (thing_stands c.args.self.now c.args.thing (thing.Page c.in-Page.page) c.in-Page.is c.requires.stands)

pub invariant_of-self-in-Page : goal.invariant_of-self-in-Page
invariant_of-self-in-Page c =
    subst IsSound
    (sym
    (ap (λ xs. record { shapes = c.self.inside.shapes; guides = c.self.inside.guides; links = c.self.inside.links; compounds = c.self.inside.compounds; groups = c.self.inside.groups; pages = xs }) c.set-in-Page.ensures
    ∙ (ap (λ (d : Diagram). with_replaced d (thing.Page c.in-Page.page)) c.self.view_is ∙ ap (with_replaced c.args.self.now) (sym c.in-Page.is))))
    c.requires.sound
