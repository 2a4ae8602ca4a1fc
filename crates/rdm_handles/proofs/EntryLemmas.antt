-- An entry is read back from its form and its bytes.
use Rattle.rdm_handles.proofs.Common.{◌≡◌, Some, None, refl, ap, number_of_status, Entry}
use Rattle.rdm_wire.specs.declared.request.Request.{Request}
use Rattle.rdm_wire.specs.declared.request.ReqClass.{ReqClass}
use Rattle.rdm_wire.specs.declared.request.ReqClass.TheVariants as requests
use Rattle.rdm_join.specs.declared.event.LineEvent.TheVariants as events
use Rattle.rdm_join.specs.declared.status.Status.{Status}
use Rattle.rdm_join.specs.declared.status.Status.TheVariants as ends
use Rattle.rdm_agent.specs.declared.fault.AgentFault.TheVariants as faults
use Rattle.rdm_agent.specs.declared.kind.Kind.{Kind}
use Rattle.rdm_agent.specs.declared.kind.Kind.TheVariants as kinds
use Rattle.rdm_log.specs.declared.entry.Call.TheVariants as calls
use Rattle.rdm_log.specs.declared.entry.Owner.TheVariants as owners
use Rattle.rdm_log.specs.declared.entry.Entry.TheVariants.{Join, Refuse, Accept, Ask, Send, Came, Finish}
use Rattle.rdm_log.specs.declared.entry.Entry.TheVariants.{Answer, Collect, Pause, Resume, Close}
use Rattle.rdm_handles.specs.Forms.{kind_of, class_of}
use Rattle.rdm_handles.specs.Packets.{number_of_request}
use Rattle.rdm_handles.specs.Entries.{form_of_entry, bytes_of_entry, number_of_kind, status_in, entry_in}

class_back : (class : ReqClass) → class_of (number_of_request class) ≡ class
class_back requests.Get = refl
class_back requests.Set = refl

kind_back : (kind : Kind) → kind_of (number_of_kind kind) ≡ kind
kind_back kinds.Full = refl
kind_back kinds.Incremental = refl

request_back : (r : Request) → (record r { class = class_of (number_of_request r.class) }) ≡ r
request_back r = ap (λ (class : ReqClass). record r { class = class }) (class_back r.class)

status_back : (s : Status) → status_in (number_of_status s) ≡ s
status_back ends.Completed = refl
status_back _ = refl

-- each entry is read back
pub read_back : (e : Entry) → entry_in (form_of_entry e) (bytes_of_entry e) ≡ e
read_back (Refuse None (calls.Join n) cause) = refl
read_back (Refuse None (calls.Submit r) cause) =
    ap (λ (q : Request). Refuse None (calls.Submit q) cause) (request_back r)
read_back (Refuse None (calls.Discover kind) cause) =
    ap (λ (k : Kind). Refuse None (calls.Discover k) cause) (kind_back kind)
read_back (Refuse (Some c) (calls.Join n) cause) = refl
read_back (Refuse (Some c) (calls.Submit r) cause) =
    ap (λ (q : Request). Refuse (Some c) (calls.Submit q) cause) (request_back r)
read_back (Refuse (Some c) (calls.Discover kind) cause) =
    ap (λ (k : Kind). Refuse (Some c) (calls.Discover k) cause) (kind_back kind)
read_back (Accept c n r) = ap (λ (q : Request). Accept c n q) (request_back r)
read_back (Ask c n kind) = ap (λ (k : Kind). Ask c n k) (kind_back kind)
read_back (Send (owners.Request n) frame) = refl
read_back (Send (owners.Run r) frame) = refl
read_back (Came (events.Reply reply)) = refl
read_back (Came events.Failed) = refl
read_back (Finish n s len) = ap (λ (t : Status). Finish n t len) (status_back s)
read_back (Answer n r None) = refl
read_back (Answer n r (Some (faults.Corrupt u))) = refl
read_back (Answer n r (Some _)) = refl
read_back _ = refl
