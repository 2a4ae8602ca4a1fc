-- What is left of a session with ring buffers: the slots of its first client's rings, and its worker's turns.
use Rattle.std.proofs.Common.{◌≡◌, ℕ, List, [], ◌∷◌, length, slice_get, Option, Some, refl, sym, ap, subst, arith}
use Rattle.std.specs.Prelude.{option_map, IfSome}
use Rattle.rdm_client.specs.declared.worker_end.WorkerEnd.{WorkerEnd}
use Rattle.rdm_client.specs.declared.worker_end.WorkerEnd.TheVariants.{AllLeft, Turns, LogFull}
use Rattle.rdm_files.specs.declared.session.client.ClientFile.{ClientFile}
use Rattle.rdm_arguments.specs.declared.port_kind.PortKind.TheVariants.{Rings}
use Rattle.rdm_lanes.specs.declared.views.history.ViewHistory.{Ghosts}
use Rattle.rdm_lanes.specs.declared.client.ends.ClientEnd.{ClientEnd}
use Rattle.rdm_lanes.specs.Ends.{end_slots, AllHaveSlots}
use Rattle.rdm_serving.specs.Serving.{slots_by}
use Rattle.rdm_serving.specs.body.Scripts.{ran_out_by}

module _ {J : Type 0} {h : Ghosts J} {C A : Type 0} where
  -- if the rings of all clients have this many slots, so have the first one's
  pub first_slots : (ring : ℕ) (ends : List (ClientEnd J C A h)) (clients : List ClientFile) → AllHaveSlots ring ends
      → length ends ≡ length clients → option_map end_slots (slice_get ends 0) ≡ slots_by Rings ring clients
  first_slots ring [] [] have long = refl
  first_slots ring [] (c ∷ cs) have long = absurd (omega (arith, long))
  first_slots ring (e ∷ es) [] have long = absurd (omega (arith, long))
  first_slots ring (e ∷ es) (c ∷ cs) have long = ap Some (have.each 0 e refl)

-- a worker whose turns ran out made all of them
pub made_all : (end : WorkerEnd) (made turns : ℕ) (ran_out : Option ℕ) → (end ≡ Turns → made ≡ turns)
    → ran_out ≡ ran_out_by end made → IfSome ran_out (λ n. n ≡ turns)
made_all Turns made turns ran_out all is = subst (λ o. IfSome o (λ n. n ≡ turns)) (sym is) (all refl)
made_all AllLeft made turns ran_out all is = subst (λ o. IfSome o (λ n. n ≡ turns)) (sym is) tt
made_all LogFull made turns ran_out all is = subst (λ o. IfSome o (λ n. n ≡ turns)) (sym is) tt
