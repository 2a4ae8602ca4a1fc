-- What a handle in C owns.
use Rattle.std.specs.Prelude.{ℕ, Bool, true, false, ◌==◌}
use mir.Syntax.{Ty}
use base.Fml.{Fml, ftrue}
use denote.RawPtr.{Ptr}
use Rattle.std.specs.declared.alloc.Global.{Global}
use Rattle.std.specs.contracts.impls.GlobalAllocator.TheImpl.{ghosts}
use Rattle.std_alloc.specs.Box.Ownership.{box_owns}
use Rattle.rdm_handles.specs.Rows.{controller_row, session_row, log_row, discovery_row}

-- the C library's heap; there is only one
abbrev pub heap : Global
heap = record { memory = record { seal = tt } }

-- the right to free a block of the heap
abbrev pub frees : Ty → Ptr → Fml
frees ty ptr = ghosts.dealloc_token heap ty ptr

-- the first if true, else the second
abbrev pub choose : Bool → Fml → Fml → Fml
choose true x y = x
choose false x y = y

-- an open handle owns a value of its kind on the heap, a closed one nothing
abbrev pub handle_owns : Bool → ℕ → Ptr → controller_row.Denot → session_row.Denot → log_row.Denot
    → discovery_row.Denot → Fml
handle_owns false kind p controller session log discovery = ftrue
handle_owns true kind p controller session log discovery =
    choose (kind == 1) (box_owns frees controller_row p controller)
    (choose (kind == 2) (box_owns frees session_row p session)
    (choose (kind == 3) (box_owns frees log_row p log)
    (choose (kind == 4) (box_owns frees discovery_row p discovery) ftrue)))
