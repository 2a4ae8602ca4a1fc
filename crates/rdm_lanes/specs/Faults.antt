-- The faults of clients with ring buffers, as those of any client.
use Rattle.std.specs.Prelude.{Option, Some, None}
use Rattle.rdm_client.specs.declared.fault.CallFault.{CallFault}
use Rattle.rdm_client.specs.declared.fault.CallFault.TheVariants as call_faults
use Rattle.rdm_lanes.specs.declared.fault.RingFault.{RingFault}
use Rattle.rdm_lanes.specs.declared.fault.RingFault.TheVariants as ring_faults

-- a fault of a client with ring buffers, under its own name
abbrev pub of_ring : RingFault → CallFault
of_ring ring_faults.Full = call_faults.Full
of_ring ring_faults.RingFull = call_faults.RingFull
of_ring ring_faults.Left = call_faults.Left

-- the fault of a refused call, if a client shows this one: a full ring isn't shown
abbrev pub shown_fault : Option RingFault → CallFault
shown_fault None = call_faults.RingFull
shown_fault (Some fault) = of_ring fault
