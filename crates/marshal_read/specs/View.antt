-- What contracts see of a reader.
use Rattle.std.specs.Prelude.{◌+◌, ◌<◌, ◌^◌, length}
use Rattle.marshal_read.specs.declared.reader.Reader.TheInside.{Inside}
use Rattle.marshal_read.specs.State.{State}
use Rattle.marshal_read.specs.Making.{objects_at, ObjectsStand}

abbrev pub state_of : Inside → State
state_of a = record {
  rest = a.rest.now;
  seen = record {
    at = a.at;
    symbols = a.symbols;
    objects = objects_at a.steps a.objects;
    nodes = a.nodes;
  };
  steps = a.steps;
  refused = a.refused;
}

-- The place fits a `usize` up to the end of the bytes, and each finished object is made by steps that are there.
pub record Sound (a : Inside) : Type 0 where
  pub place : a.at + length a.rest.now < 2 ^ 63
  pub objects : ObjectsStand a.steps a.objects
