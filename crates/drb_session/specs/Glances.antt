-- The events that may find nothing to do, in a form that is copied.
use Rattle.rinda_rules.specs.declared.event.Event.{Event}
use Rattle.rinda_rules.specs.declared.event.Event.TheVariants.{Collect, Pop, NextAsk, Tick, Shut}
use Rattle.drb_session.specs.declared.making.Glance.{Glance}
use Rattle.drb_session.specs.declared.making.Glance.TheVariants as glance

abbrev pub event_of : Glance → Event
event_of (glance.Collect id) = Collect id
event_of (glance.Pop id) = Pop id
event_of glance.NextAsk = NextAsk
event_of glance.Tick = Tick
event_of glance.Shut = Shut

-- the glance of an event that may find nothing to do
abbrev pub glance_of : Event → Glance
glance_of (Collect id) = glance.Collect id
glance_of (Pop id) = glance.Pop id
glance_of NextAsk = glance.NextAsk
glance_of Shut = glance.Shut
glance_of _ = glance.Tick
