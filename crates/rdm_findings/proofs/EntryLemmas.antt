-- The text of an entry is that of no other one.
use Rattle.std.proofs.Common.{◌≡◌, ℕ, ◌^◌, ◌<◌, ◌==◌, if◌then◌else◌, true, List, [], ◌∷◌, ◌++◌, Option}
use Rattle.std.proofs.Common.{Some, None}
use Rattle.std.proofs.Common.{slice_index, slice_index_or, codes, IfSome, refl, sym, ap, ap₂, ◌∙◌, append_assoc, arith}
use Rattle.std.proofs.lemmas.List.{append_cancel_left}
use Rattle.rdm_wire.specs.Bytes.{two_bytes}
use Rattle.rdm_wire.specs.UidText.{uid_text}
use Rattle.rdm_wire.specs.declared.request.ReqClass.{ReqClass}
use Rattle.rdm_wire.specs.declared.request.ReqClass.TheVariants.{Get, Set}
use Rattle.rdm_wire.specs.declared.request.Request.{Request}
use Rattle.rdm_join.specs.Statuses.{number_of_status}
use Rattle.rdm_join.specs.declared.event.LineEvent.{LineEvent}
use Rattle.rdm_join.specs.declared.event.LineEvent.TheVariants.{Reply, Failed}
use Rattle.rdm_join.specs.declared.status.Status.{Status}
use Rattle.rdm_join.specs.declared.status.Status.TheVariants as status
use Rattle.rdm_agent.specs.Fault.{fault_number}
use Rattle.rdm_agent.specs.declared.fault.AgentFault.{AgentFault}
use Rattle.rdm_agent.specs.declared.fault.AgentFault.TheVariants.{Corrupt, TooMany, Exhausted, LineFailed, Aborted}
use Rattle.rdm_agent.specs.declared.kind.Kind.{Kind}
use Rattle.rdm_agent.specs.declared.kind.Kind.TheVariants.{Full, Incremental}
use Rattle.rdm_log.specs.declared.entry.Call.{Call}
use Rattle.rdm_log.specs.declared.entry.Call.TheVariants as calls
use Rattle.rdm_log.specs.declared.entry.ClientId.{ClientId}
use Rattle.rdm_log.specs.declared.entry.Entry.{Entry}
use Rattle.rdm_log.specs.declared.entry.Entry.TheVariants as entries
use Rattle.rdm_log.specs.declared.entry.Owner.{Owner}
use Rattle.rdm_log.specs.declared.entry.Owner.TheVariants as owners
use Rattle.rdm_reports.specs.LogText.{text_member, number_member, bytes_member, class_key, request_members, kind_member}
use Rattle.rdm_reports.specs.LogText.{call_members}
use Rattle.rdm_reports.specs.LogText.{caller_member, owner_member, event_member, corrupt_member, fault_members}
use Rattle.rdm_reports.specs.LogText.{entry_name, entry_members}
use Rattle.rdm_findings.specs.Lines.{time_member}
use Rattle.rdm_findings.specs.SameLines.{Has64Bits, Has48Bits, FitsRequest, FitsCall, FitsOwner, FitsEvent, FitsFault}
use Rattle.rdm_findings.specs.SameLines.{FitsEntry}
use Rattle.rdm_findings.proofs.PieceLemmas.{Ends, IsOwn, Owns, both, of, number, word, bytes, pair, uid}

-- the third code of a text: the first letter of its first key
abbrev third : List ℕ → ℕ
third text = slice_index text 2

-- what follows the members of an entry
abbrev pub tail : Option ℕ → List ℕ → List ℕ
tail None r = 125 ∷ 10 ∷ r
tail (Some time) r = time_member time ++ (125 ∷ 10 ∷ r)

tail_ends : (t : Option ℕ) (r : List ℕ) → Ends (tail t r)
tail_ends None r = refl
tail_ends (Some time) r = refl

-- before what follows an entry
pub before : {A : Type 0} {f : A → List ℕ} {P : A → Type 0} → IsOwn f P → (x y : A) (t u : Option ℕ) (r s : List ℕ)
    → P x → P y → f x ++ tail t r ≡ f y ++ tail u s → (x ≡ y) × (tail t r ≡ tail u s)
before o x y t u r s i j h = o.own x y (tail t r) (tail u s) i j h (tail_ends t r) (tail_ends u s)

pub kind : IsOwn kind_member (λ k. Unit {0})
kind = record { own = one; ends = last }
  where
    one : Owns kind_member (λ k. Unit {0})
    one Full Full r s f g h e d =
        (refl, ((word (codes "discover")).own (codes "full") (codes "full") r s refl refl h e d).1)
    one Incremental Incremental r s f g h e d =
        (refl, ((word (codes "discover")).own (codes "incremental") (codes "incremental") r s refl refl h e d).1)
    one k l r s f g h e d = absurd (omega (arith, ap (λ (text : List ℕ). slice_index text 13) h))

    last : (k : Kind) (r : List ℕ) → Ends r → Ends (kind_member k ++ r)
    last Full r e = refl
    last Incremental r e = refl

-- a request's class and target
class : IsOwn (λ (p : ReqClass × ℕ). text_member (class_key p.0) (uid_text p.1)) (λ (p : ReqClass × ℕ). Has48Bits p.1)
class = record {
  own = λ p q r s f g h e d.
      let x = one p.0 q.0 p.1 q.1 r s f g h e d in (ap₂ (λ (c : ReqClass) (u : ℕ). (c, u)) x.0 x.1, x.2);
  ends = λ p r e. refl;
}
  where
    one : (c d : ReqClass) (u v : ℕ) (r s : List ℕ) → Has48Bits u → Has48Bits v
        → text_member (class_key c) (uid_text u) ++ r ≡ text_member (class_key d) (uid_text v) ++ s → Ends r → Ends s
        → (c ≡ d) × (u ≡ v) × (r ≡ s)
    one Get Get u v r s f g h e i =
        let x = (uid (codes "get")).own u v r s f g h e i in (refl, x.0, x.1)
    one Set Set u v r s f g h e i =
        let x = (uid (codes "set")).own u v r s f g h e i in (refl, x.0, x.1)
    one c d u v r s f g h e i = absurd (omega (arith, ap third h))

request : IsOwn request_members FitsRequest
request =
    of (both (both (both class (pair (codes "pid"))) (number (codes "sub"))) (bytes (codes "param")))
    (λ p. record {
      class = p.0.0.0.0;
      target = p.0.0.0.1;
      pid = p.0.0.1;
      sub_device = p.0.1;
      param = record { items = p.1 };
    })
    (λ (q : Request). ((((q.class, q.target), q.pid), q.sub_device), q.param.items)) (λ q. refl)
    (λ q f. (((f.0, f.2), f.1), f.3))

-- which call has members that begin so
call_number : List ℕ → ℕ
call_number text =
    let c = third text in
    if c == 99 then 0 else (if c == 112 then 1 else (if c == 100 then 2 else 3))

number_of_call : Call → ℕ
number_of_call (calls.Join places) = 1
number_of_call (calls.Discover k) = 2
number_of_call (calls.Submit q) = 3

call_begins : (call : Call) (r : List ℕ) → call_number (call_members call ++ r) ≡ number_of_call call
unfolding call_number number_of_call
call_begins (calls.Join places) r = refl
call_begins (calls.Submit q) r =
    by_class q.class (uid_text q.target) (bytes_member (codes "pid") (two_bytes q.pid))
    (number_member (codes "sub") q.sub_device) (bytes_member (codes "param") q.param.items) r
  where
    by_class : (c : ReqClass) (u a b d r : List ℕ)
        → call_number (text_member (class_key c) u ++ a ++ b ++ d ++ r) ≡ 3
    by_class Get u a b d r = refl
    by_class Set u a b d r = refl
call_begins (calls.Discover Full) r = refl
call_begins (calls.Discover Incremental) r = refl

call_ends : (call : Call) (r : List ℕ) → Ends r → Ends (call_members call ++ r)
call_ends (calls.Discover k) r e = kind.ends k r e
call_ends call r e = refl

own_call : (a b : Call) (r s : List ℕ) → FitsCall a → FitsCall b → number_of_call a ≡ number_of_call b
    → call_members a ++ r ≡ call_members b ++ s → Ends r → Ends s → (a ≡ b) × (r ≡ s)
unfolding number_of_call
own_call (calls.Join p) (calls.Join q) r s f g k h e d =
    let one = (number (codes "places")).own p q r s f g h e d in (ap calls.Join one.0, one.1)
own_call (calls.Submit p) (calls.Submit q) r s f g k h e d =
    let one = request.own p q r s f g h e d in (ap calls.Submit one.0, one.1)
own_call (calls.Discover p) (calls.Discover q) r s f g k h e d =
    let one = kind.own p q r s f g h e d in (ap calls.Discover one.0, one.1)
own_call a b r s f g k h e d = absurd (omega (arith, k))

not_zero : (call : Call) (r : List ℕ) → call_number (call_members call ++ r) ≡ 0 → ⊥
unfolding number_of_call
not_zero call r h = positive call (sym (call_begins call r) ∙ h)
  where
    positive : (call : Call) → number_of_call call ≡ 0 → ⊥
    positive (calls.Join places) h = absurd (omega (arith, h))
    positive call h = absurd (omega (arith, h))

own_caller : (c d : Option ClientId) (r s : List ℕ) → IfSome c (λ x. Has64Bits x.0) → IfSome d (λ x. Has64Bits x.0)
    → caller_member c ++ r ≡ caller_member d ++ s → Ends r → Ends s → (call_number r ≡ 0 → ⊥)
    → (call_number s ≡ 0 → ⊥) → (c ≡ d) × (r ≡ s)
unfolding call_number
own_caller None None r s f g h e d p q = (refl, h)
own_caller None (Some d) r s f g h e i p q = absurd (p (ap call_number h))
own_caller (Some c) None r s f g h e d p q = absurd (q (ap call_number (sym h)))
own_caller (Some c) (Some d) r s f g h e i p q =
    let one = (number (codes "client")).own c.0 d.0 r s f g h e i in
    (ap (λ (n : ℕ). Some (record { 0 = n })) one.0, one.1)

-- a call and its client
call : IsOwn (λ (p : Option ClientId × Call). caller_member p.0 ++ call_members p.1)
    (λ (p : Option ClientId × Call). IfSome p.0 (λ c. Has64Bits c.0) × FitsCall p.1)
call = record {
  own = λ p q r s f g h e d.
      let one = own_caller p.0 q.0 (call_members p.1 ++ r) (call_members q.1 ++ s) f.0 g.0
      (sym (append_assoc (caller_member p.0) (call_members p.1) r) ∙ h
      ∙ append_assoc (caller_member q.0) (call_members q.1) s) (call_ends p.1 r e) (call_ends q.1 s d)
      (not_zero p.1 r) (not_zero q.1 s) in
      let two = own_call p.1 q.1 r s f.1 g.1 (sym (call_begins p.1 r) ∙ ap call_number one.1 ∙ call_begins q.1 s) one.1
      e d in (ap₂ (λ (c : Option ClientId) (x : Call). (c, x)) one.0 two.0, two.1);
  ends = λ p r e. last p.0 p.1 r e;
}
  where
    last : (c : Option ClientId) (x : Call) (r : List ℕ) → Ends r → Ends (caller_member c ++ call_members x ++ r)
    last None x r e = call_ends x r e
    last (Some c) x r e = refl

owner : IsOwn owner_member FitsOwner
owner = record { own = one; ends = last }
  where
    one : Owns owner_member FitsOwner
    one (owners.Request m) (owners.Request n) r s f g h e d =
        let x = (number (codes "request")).own m n r s f g h e d in (ap owners.Request x.0, x.1)
    one (owners.Run m) (owners.Run n) r s f g h e d =
        let x = (number (codes "run")).own m n r s f g h e d in (ap owners.Run x.0, x.1)
    one a b r s f g h e d = absurd (omega (arith, ap (λ (text : List ℕ). slice_index text 3) h))

    last : (a : Owner) (r : List ℕ) → Ends r → Ends (owner_member a ++ r)
    last (owners.Request n) r e = refl
    last (owners.Run n) r e = refl

pub event : IsOwn event_member FitsEvent
event = record { own = one; ends = last }
  where
    one : Owns event_member FitsEvent
    one (Reply v) (Reply w) r s f g h e d =
        let x = (bytes (codes "reply")).own v.items w.items r s f g h e d in
        (ap (λ (l : List ℕ). Reply (record { items = l })) x.0, x.1)
    one Failed Failed r s f g h e d = (refl, append_cancel_left (codes ",\"failed\":true") r s h)
    one a b r s f g h e d = absurd (omega (arith, ap third h))

    last : (a : LineEvent) (r : List ℕ) → Ends r → Ends (event_member a ++ r)
    last (Reply v) r e = refl
    last Failed r e = refl

own_corrupt : (a b : AgentFault) (r s : List ℕ) → FitsFault a → FitsFault b → fault_number a ≡ fault_number b
    → corrupt_member a ++ r ≡ corrupt_member b ++ s → Ends r → Ends s → (a ≡ b) × (r ≡ s)
own_corrupt (Corrupt u) (Corrupt v) r s f g k h e d =
    let one = (uid (codes "uid")).own u v r s f g h e d in (ap Corrupt one.0, one.1)
own_corrupt TooMany TooMany r s f g k h e d = (refl, h)
own_corrupt Exhausted Exhausted r s f g k h e d = (refl, h)
own_corrupt LineFailed LineFailed r s f g k h e d = (refl, h)
own_corrupt Aborted Aborted r s f g k h e d = (refl, h)
own_corrupt a b r s f g k h e d = absurd (omega (arith, k))

fault_fits : (a : AgentFault) → fault_number a < 2 ^ 64
fault_fits (Corrupt u) = omega arith
fault_fits a = omega arith

corrupt_ends : (a : AgentFault) (r : List ℕ) → Ends r → Ends (corrupt_member a ++ r)
corrupt_ends (Corrupt u) r e = refl
corrupt_ends a r e = e

no_fault : (t : Option ℕ) (r x : List ℕ) → tail t r ≡ 44 ∷ 34 ∷ 102 ∷ x → ⊥
no_fault None r x h = absurd (omega (arith, ap (λ (l : List ℕ). slice_index l 0) h))
no_fault (Some time) r x h = absurd (omega (arith, ap third h))

own_fault : (a b : Option AgentFault) (t u : Option ℕ) (r s : List ℕ) → IfSome a FitsFault → IfSome b FitsFault
    → fault_members a ++ tail t r ≡ fault_members b ++ tail u s → (a ≡ b) × (tail t r ≡ tail u s)
own_fault None None t u r s f g h = (refl, h)
own_fault None (Some b) t u r s f g h = absurd (no_fault t r _ h)
own_fault (Some a) None t u r s f g h = absurd (no_fault u s _ (sym h))
own_fault (Some a) (Some b) t u r s f g h =
    let one = (number (codes "fault")).own (fault_number a) (fault_number b) _ _ (fault_fits a) (fault_fits b)
    (sym (append_assoc (number_member (codes "fault") (fault_number a)) (corrupt_member a) (tail t r)) ∙ h
    ∙ append_assoc (number_member (codes "fault") (fault_number b)) (corrupt_member b) (tail u s))
    (corrupt_ends a (tail t r) (tail_ends t r)) (corrupt_ends b (tail u s) (tail_ends u s)) in
    let two = own_corrupt a b (tail t r) (tail u s) f g one.0 one.1 (tail_ends t r) (tail_ends u s) in
    (ap Some two.0, two.1)

fault_ends : (a : Option AgentFault) (t : Option ℕ) (r : List ℕ) → Ends (fault_members a ++ tail t r)
fault_ends None t r = tail_ends t r
fault_ends (Some a) t r = refl

statuses : List Status
statuses =
    status.Completed ∷ status.WasBroadcast ∷ status.FailedToSend ∷ status.Timeout ∷ status.InvalidResponse
    ∷ status.TooShort ∷ status.WrongStart ∷ status.WrongSubStart ∷ status.LengthMismatch ∷ status.ParamLengthMismatch
    ∷ status.Checksum ∷ status.InvalidClass ∷ status.InvalidResponseType ∷ status.TransactionMismatch
    ∷ status.SubDeviceMismatch ∷ status.SourceMismatch ∷ status.DestMismatch ∷ status.ClassMismatch
    ∷ status.NoMemory ∷ []

status_back : (s : Status)
    → (slice_index_or statuses (number_of_status s) status.Completed ≡ s) × (number_of_status s < 2 ^ 64)
unfolding statuses
status_back status.Completed = (refl, omega arith)
status_back s = (refl, omega arith)

ended : IsOwn (λ s. number_member (codes "status") (number_of_status s)) (λ s. Unit {0})
ended =
    of (number (codes "status")) (λ n. slice_index_or statuses n status.Completed) number_of_status
    (λ s. (status_back s).0) (λ s f. (status_back s).1)

-- an entry is that of its members, if its name is known
pub own_members : (a b : Entry) (t u : Option ℕ) (r s : List ℕ) → FitsEntry a → FitsEntry b
    → entry_name a ≡ entry_name b → entry_members a ++ tail t r ≡ entry_members b ++ tail u s
    → (a ≡ b) × (tail t r ≡ tail u s)
own_members (entries.Join c m) (entries.Join d n) t u r s f g k h =
    let one = before (both (number (codes "client")) (number (codes "places"))) (c.0, m) (d.0, n) t u r s f g h in
    (ap (λ (p : ℕ × ℕ). entries.Join (record { 0 = p.0 }) p.1) one.0, one.1)
own_members (entries.Refuse c x m) (entries.Refuse d y n) t u r s f g k h =
    let one = before (both call (number (codes "cause"))) ((c, x), m.0) ((d, y), n.0) t u r s ((f.0, f.1), f.2)
    ((g.0, g.1), g.2) h in
    (ap (λ (p : (Option ClientId × Call) × ℕ). entries.Refuse p.0.0 p.0.1 (record { 0 = p.1 })) one.0, one.1)
own_members (entries.Accept c m p) (entries.Accept d n q) t u r s f g k h =
    let one = before (both (both (number (codes "client")) (number (codes "number"))) request) ((c.0, m), p)
    ((d.0, n), q) t u r s ((f.0, f.1), f.2) ((g.0, g.1), g.2) h in
    (ap (λ (x : (ℕ × ℕ) × Request). entries.Accept (record { 0 = x.0.0 }) x.0.1 x.1) one.0, one.1)
own_members (entries.Ask c m p) (entries.Ask d n q) t u r s f g k h =
    let one = before (both (both (number (codes "client")) (number (codes "number"))) kind) ((c.0, m), p)
    ((d.0, n), q) t u r s (f, tt) (g, tt) h in
    (ap (λ (x : (ℕ × ℕ) × Kind). entries.Ask (record { 0 = x.0.0 }) x.0.1 x.1) one.0, one.1)
own_members (entries.Send m v) (entries.Send n w) t u r s f g k h =
    let one = before (both owner (bytes (codes "frame"))) (m, v.items) (n, w.items) t u r s f g h in
    (ap (λ (x : Owner × List ℕ). entries.Send x.0 (record { items = x.1 })) one.0, one.1)
own_members (entries.Came x) (entries.Came y) t u r s f g k h =
    let one = before event x y t u r s f g h in (ap entries.Came one.0, one.1)
own_members (entries.Finish m x c) (entries.Finish n y d) t u r s f g k h =
    let one = before (both (both (number (codes "number")) ended) (number (codes "length"))) ((m, x), c) ((n, y), d)
    t u r s ((f.0, tt), f.1) ((g.0, tt), g.1) h in
    (ap (λ (z : (ℕ × Status) × ℕ). entries.Finish z.0.0 z.0.1 z.1) one.0, one.1)
own_members (entries.Answer m x p) (entries.Answer n y q) t u r s f g k h =
    let start : ℕ → ℕ → List ℕ = λ a b. number_member (codes "number") a ++ number_member (codes "run") b in
    let one = (both (number (codes "number")) (number (codes "run"))).own (m, x) (n, y) _ _ (f.0, f.1) (g.0, g.1)
    (sym (append_assoc (start m x) (fault_members p) (tail t r)) ∙ h
    ∙ append_assoc (start n y) (fault_members q) (tail u s)) (fault_ends p t r) (fault_ends q u s) in
    let two = own_fault p q t u r s f.2 g.2 one.1 in
    (ap₂ (λ (z : ℕ × ℕ) (a : Option AgentFault). entries.Answer z.0 z.1 a) one.0 two.0, two.1)
own_members (entries.Collect c) (entries.Collect d) t u r s f g k h =
    let one = before (number (codes "client")) c.0 d.0 t u r s f g h in
    (ap (λ (n : ℕ). entries.Collect (record { 0 = n })) one.0, one.1)
own_members entries.Pause entries.Pause t u r s f g k h = (refl, h)
own_members entries.Resume entries.Resume t u r s f g k h = (refl, h)
own_members entries.Close entries.Close t u r s f g k h = (refl, h)
own_members a b t u r s f g k h =
    absurd (omega (arith, ap (λ (text : List ℕ). slice_index text 0) k, ap third k))
