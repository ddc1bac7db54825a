use Rattle.session_show.proofs.Rooms.{lawful, tries}
use Rattle.session_show.proofs.roomless.RoomlessTurns.turn.Goals as goal

pub returns-clause-tries : goal.returns-clause-tries
returns-clause-tries c = tries c.args._at c.args.event c.is_idle-idle.result c.tried.result c.is_idle-idle.ensures c.tried.ensures

pub returns-clause-lawful : goal.returns-clause-lawful
returns-clause-lawful c = lawful
