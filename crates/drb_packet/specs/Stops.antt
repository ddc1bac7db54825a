-- Why a reading goes no further.
use Rattle.drb_packet.specs.declared.refusal.PacketError.{PacketError}
use Rattle.drb_packet.specs.declared.refusal.PacketError.TheVariants as fault
use Rattle.drb_packet.specs.declared.stop.Stop.{Stop}
use Rattle.drb_packet.specs.declared.stop.Stop.TheVariants as stop

abbrev pub stop_of : PacketError → Stop
stop_of fault.ReadFault = stop.ReadFault
stop_of fault.Memory = stop.Memory
