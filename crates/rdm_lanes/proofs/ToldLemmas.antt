-- The entry of an outcome that a client got.
use Rattle.rdm_lanes.proofs.Common.{◌≡◌, ℕ, true, List, ◌∷◌, ◌++◌, map, Option, Some, sym, ap, ◌∙◌, slice_get, inl, inr}
use Rattle.rdm_lanes.proofs.Common.{refl, ◌⊎◌, AgentFault, Call, Cause, ClientId, Opening, Entry, Join, Refuse, Accept}
use Rattle.rdm_lanes.proofs.Common.{Ask, Send, Came, Finish, Answer, Collect, Pause, Resume, Close, answer_devices}
use Rattle.rdm_lanes.proofs.Common.{LogState, OutcomeValue, Discovered, never_begun, refused_outcome, outcome_of, told}
use Rattle.rdm_lanes.proofs.Common.{DiscoveryValue, slice_get-append_left, filter_has, Ghosts, ClientEnd, known_items}
use Rattle.rdm_lanes.proofs.Common.{told_values, uncollected_values, values_in, end_got, Agrees}
use Rattle.rdm_log.specs.declared.entry.Call.TheVariants as calls
use Rattle.rdm_log.specs.promises.Outcomes.{discovered_by}
use Rattle.rdm_scenes.proofs.SceneLemmas.{split_at}
use Rattle.rdm_lanes.specs.Told.{TellsAll}
use Rattle.rdm_lanes.proofs.GrowthLemmas.{tells}
use Rattle.rdm_lanes.proofs.EndLemmas.{get_map, map_get}

-- the entry of an outcome that a client got
pub record IsToldBy (o : Opening) (h : List Entry) (c : ℕ) (v : OutcomeValue) : Type 0 where
  pub entry : Entry
  pub front : List Entry
  pub back : List Entry
  pub whole : h ≡ front ++ entry ∷ back
  pub is : outcome_of h entry ≡ Some v
  pub own : tells o c h entry ≡ true

pub told_in : (o : Opening) (h : List Entry) (c : ℕ) (values : List OutcomeValue) (v : OutcomeValue) (i : ℕ)
    → TellsAll o c h values → slice_get values i ≡ Some v → IsToldBy o h c v
unfolding told_values
told_in o h c values v i tells_all at =
    let some = get_map (λ (v : OutcomeValue). Some v) values i v at in
    let all = slice_get-append_left (map (λ (v : OutcomeValue). Some v) values) (uncollected_values o c h) i (Some v)
    some in
    let in_told : slice_get (told_values o c h) i
    ≡ Some (Some v) = ap (λ (vs : List (Option OutcomeValue)). slice_get vs i) (sym tells_all) ∙ all in
    let found = map_get (outcome_of h) (told o c h) i (Some v) (values_are o c h i (Some v) in_told) in
    let index = filter_has (tells o c h) h i found.0 found.1 in
    let parts = split_at h index.0 found.0 index.1 in
    record { entry = found.0; front = parts.0; back = parts.1; whole = parts.2; is = found.2; own = index.2 }
  where
    values_are : (o : Opening) (c : ℕ) (h : List Entry) (i : ℕ) (v : Option OutcomeValue)
        → slice_get (told_values o c h) i ≡ Some v → slice_get (map (outcome_of h) (told o c h)) i ≡ Some v
    values_are o c h i v at = at

pub told_by : {J : Type 0} {h : Ghosts J} {C A : Type 0} (k : LogState) (c : ℕ) (e : ClientEnd J C A h)
    (v : OutcomeValue) (i : ℕ) → Agrees c k e → slice_get (end_got e) i ≡ Some v → IsToldBy k.opening k.entries c v
told_by k c e v i agrees at =
    told_in k.opening k.entries c (end_got e ++ values_in (known_items e.replies)) v i agrees.got_are
    (slice_get-append_left (end_got e) (values_in (known_items e.replies)) i v at)

-- it is an Answer, or the refusal of a discovery by a close
pub record IsAnswered (h front back : List Entry) (e : Entry) (number : Option ℕ) (done : Discovered) : Type 0 where
  pub n : ℕ
  pub run : ℕ
  pub is : e ≡ Answer n run done.fault
  pub run_is : done.run ≡ run
  pub devices : done.devices ≡ answer_devices run h

pub record IsRefusedByClose (e : Entry) (done : Discovered) : Type 0 where
  pub client : Option ClientId
  pub call : Call
  pub cause : Cause
  pub is : e ≡ Refuse client call cause
  pub never : done ≡ never_begun

by_refusal : (c : Option ClientId) (call : Call) (cause : Cause) (number : Option ℕ) (done : Discovered)
    → refused_outcome call ≡ Some (DiscoveryValue number done) → IsRefusedByClose (Refuse c call cause) done
by_refusal c (calls.Submit request) cause number done is = cc
by_refusal c (calls.Discover kind) cause number done is = record {
  client = c;
  call = calls.Discover kind;
  cause = cause;
  is = refl;
  never = cc;
}
by_refusal c (calls.Join places) cause number done is = cc

pub discovery_of : (h front back : List Entry) (e : Entry) (number : Option ℕ) (done : Discovered)
    → outcome_of h e ≡ Some (DiscoveryValue number done) → IsAnswered h front back e number done
    ⊎ IsRefusedByClose e done
discovery_of h front back (Answer n r fault) number done is =
    let same : discovered_by r fault h ≡ done = cc in
    inl (record {
      n = n;
      run = r;
      is = ap (λ (f : Option AgentFault). Answer n r f) (ap (λ (d : Discovered). d.fault) same);
      run_is = ap (λ (d : Discovered). d.run) (sym same);
      devices = ap (λ (d : Discovered). d.devices) (sym same);
    })
discovery_of h front back (Refuse c call cause) number done is = inr (by_refusal c call cause number done is)
discovery_of h front back (Finish n status len) number done is = cc
discovery_of h front back (Join c n) number done is = cc
discovery_of h front back (Accept c n request) number done is = cc
discovery_of h front back (Ask c n kind) number done is = cc
discovery_of h front back (Send owner frame) number done is = cc
discovery_of h front back (Came event) number done is = cc
discovery_of h front back (Collect c) number done is = cc
discovery_of h front back Pause number done is = cc
discovery_of h front back Resume number done is = cc
discovery_of h front back Close number done is = cc
