-- Frames: what a step of the layout proposes, and the places that it draws.
use Rattle.std.specs.Prelude.{map, All}
use Rattle.frac128.specs.Fraction.{floor_of}
use Rattle.multiplier_check.specs.Certificate.{IsNear}
use Rattle.frame_store.specs.declared.places.Places.{Places}
use Rattle.frame_store.specs.declared.frames.Frame.{Frame}

-- the drawn places of a frame, in whole diagram units: the floors of its fractions
abbrev pub drawn : Frame → Places
drawn frame = record { x = map floor_of frame.x.places; y = map floor_of frame.y.places }

-- the places of a frame lie within 2^31 of 0
pub record HasNearPlaces (frame : Frame) : Type 0 where
  pub x : All IsNear frame.x.places
  pub y : All IsNear frame.y.places
