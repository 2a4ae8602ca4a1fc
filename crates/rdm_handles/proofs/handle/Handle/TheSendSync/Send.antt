use Rattle.rdm_handles.proofs.Common.{lone, RattleType, Ptr, RawPtr, bool, u32, shape, Fml, box_owns, frees, Handle}
use mir.Raw.{raw}
use denote.Param.Send.{IsSend, owning_send, struct_send, sendable}
use denote.Struct.Struct.{exits_of}
use denote.Struct.Owning.{fields, to}
use base.Shift.{Keyless}
use Rattle.std.specs.Prelude.{Bool, true, false, ◌==◌}
use Rattle.std_alloc.proofs.SendSync.{quiet, lies}
use Rattle.std.proofs.Crossing.{frees as anywhere}
use Rattle.rdm_queue.proofs.controller.Controller.TheSendSync as of_controller
use Rattle.rdm_queue.proofs.session.Session.TheSendSync as of_session
use Rattle.rdm_log.proofs.log.Log.TheSendSync as of_log
use Rattle.rdm_handles.proofs.discovery.Discovery.TheSendSync as of_discovery
use Rattle.rdm_handles.specs.Rows.{controller_row, session_row, log_row, discovery_row}
use Rattle.rdm_handles.specs.Owned.{heap, choose}
use Rattle.rdm_handles.specs.contracts.handle.Handle.{the_row, the_type}
use Rattle.rdm_handles.proofs.Handles.{owns_as}

boxed : (R : RattleType) → IsSend R → (p : Ptr) (x : R.Denot) → Keyless (box_owns frees R p x)
boxed R sends p x = (lies R sends p x, anywhere.frees heap (raw (lone R.mir)) p)

choose_keyless : (y : Bool) (P Q : Fml) → Keyless P → Keyless Q → Keyless (choose y P Q)
choose_keyless true P Q p q = p
choose_keyless false P Q p q = q

keyless : (y : Bool) (h : Handle) → Keyless (owns_as h y h.kind)
keyless false h = tt
keyless true h =
    choose_keyless (h.kind == 1) _ _ (boxed controller_row of_controller.the_send h.at h.controller)
    (choose_keyless (h.kind == 2) _ _ (boxed session_row of_session.the_send h.at h.session)
    (choose_keyless (h.kind == 3) _ _ (boxed log_row of_log.the_send h.at h.log)
    (choose_keyless (h.kind == 4) _ _ (boxed discovery_row of_discovery.the_send h.at h.discovery) tt)))

pub send : IsSend the_row
send = let O = the_type in let ps : IsSend RawPtr = search sendable in let bs : IsSend bool = search sendable in
    let ks : IsSend u32 = search sendable in
    owning_send O (ps, (bs, (ks, tt))) (λ h. keyless h.is_open h)
    (λ k. quiet (to O) (exits_of k (fields O)) ((struct_send (shape O) (ps, (bs, (ks, tt)))).leaving k))
