-- Steps of the simulated line.
use Rattle.std.proofs.Common.{◌≡◌, ℕ, ◌+◌, Bool, true, false, cond, List, [], ◌∷◌, Option, Some, None, refl, sym, ap}
use Rattle.std.proofs.Common.{◌∙◌, subst}
use Rattle.std.specs.Prelude.{◌==◌, nat_lt, MatchOption}
use Rattle.std.proofs.lemmas.Bool.{and_parts}
use Rattle.rdm_wire.specs.Uid.{has}
use Rattle.rdm_join.specs.declared.event.LineEvent.TheVariants.{Reply}
use Rattle.arrayvec.specs.ArrayVec.{ArrayVec}
use Rattle.rdm_wire.specs.Packet.{packet}
use Rattle.rdm_wire.specs.Responses.{fields_of}
use Rattle.rdm_wire.specs.declared.command.Command.{Command}
use Rattle.rdm_wire.specs.declared.command.Command.TheVariants.{Unmute, Branch, Mute, Request as Requested}
use Rattle.rdm_wire.specs.declared.request.Request.{Request}
use Rattle.rdm_wire.specs.declared.request.ReqClass.{ReqClass}
use Rattle.rdm_wire.specs.declared.request.ReqClass.TheVariants.{Get, Set}
use Rattle.rdm_wire.specs.declared.response.AckType.{AckType}
use Rattle.rdm_wire.specs.declared.response.RespClass.TheVariants as responses
use Rattle.rdm_line.specs.Events.{Exchange}
use Rattle.rdm_line.specs.Parameters.{ParameterState, parameter_of, ack_of_part, sent_of}
use Rattle.rdm_line.specs.body.Parts.{AnswersPart, parameter_at, SendsPart}
use Rattle.rdm_line.specs.Scenes.{device_at, sent_by}
use Rattle.rdm_line.specs.Sim.{SimState, IsSoundState, SimStep, FailsOnly, Exchanges, Acts, ActsOn, AnswersBranch}
use Rattle.rdm_line.specs.Sim.{AnswersRequest, AnswersOf, AnswersGet, Refuses, KeepsSilent, Mutes, response_to}
use Rattle.rdm_line.specs.Sim.{is_among, answering, answers_class, IsHeard, next_exchange, last_exchange}
use Rattle.rdm_line.specs.declared.scene.SceneDevice.{SceneDevice}
use Rattle.rdm_line.proofs.SceneLemmas.{with_params}

-- a GET, by the part that was sent
pub answered : (o : Option ParameterState) (answer : Option (ArrayVec ℕ × AckType)) (s new : SimState) (r : Request)
    (source tn : ℕ) (reply : List ℕ)
    → AnswersPart o answer → SendsPart r source tn answer reply → new ≡ record s {
      devices = sent_by r.target r.pid s.devices;
    }
    → (o ≡ None → sent_by r.target r.pid s.devices ≡ s.devices)
    → MatchOption o (Refuses s r source tn responses.Get reply new) (λ p. AnswersGet s r source tn p reply new)
answered None None s new r source tn reply part bytes_are sent none = record {
  bytes = bytes_are;
  same = sent ∙ ap (λ ds. record s { devices = ds }) (none refl);
}
answered None (Some a) s new r source tn reply part bytes_are sent none = absurd (let wrong : ⊥ = cc in wrong)
answered (Some p) None s new r source tn reply part bytes_are sent none = absurd (let wrong : ⊥ = cc in wrong)
answered (Some p) (Some a) s new r source tn reply part bytes_are sent none = record {
  bytes =
      bytes_are ∙ ap (λ k. packet (fields_of (response_to r source tn responses.Get k a.0.items))) part.0.1
      ∙ ap (λ b. packet (fields_of (response_to r source tn responses.Get (ack_of_part p) b))) part.0.0;
  sent = sent;
}

-- where the device has no such parameter, no part is sent
sent_none : (pid : ℕ) (ps : List ParameterState) → parameter_of pid ps ≡ None → sent_of pid ps ≡ ps
sent_none pid [] h = refl
sent_none pid (p ∷ ps) h = by_test (p.pid == pid) refl (sent_none pid ps)
  where
    by_test : (t : Bool) → (p.pid == pid) ≡ t → (parameter_of pid ps ≡ None → sent_of pid ps ≡ ps)
        → sent_of pid (p ∷ ps) ≡ p ∷ ps
    by_test true is rest = absurd (let wrong : Some p ≡ None = sym (rw is refl) ∙ h in let never : ⊥ = cc in never)
    by_test false is rest = rw is (ap (λ l. p ∷ l) (rest (rw is at h)))

pub nothing_sent : (u pid : ℕ) (ds : List SceneDevice) → parameter_at u pid ds ≡ None → sent_by u pid ds ≡ ds
nothing_sent u pid [] h = refl
nothing_sent u pid (d ∷ ds) h = by_test (d.device.uid == u) refl (nothing_sent u pid ds)
  where
    by_test : (t : Bool) → (d.device.uid == u) ≡ t → (parameter_at u pid ds ≡ None → sent_by u pid ds ≡ ds)
        → sent_by u pid (d ∷ ds) ≡ d ∷ ds
    by_test true is rest = rw is (ap (λ ps. with_params d ps ∷ ds) (sent_none pid d.params (rw is at h)))
    by_test false is rest = rw is (ap (λ l. d ∷ l) (rest (rw is at h)))

-- the failures, and the numbers of what is lost and what fails, stay whatever the devices do
pub record KeepsNumbers (s new : SimState) : Type 0 where
  pub failures : new.failures ≡ s.failures
  pub losses : new.losses ≡ s.losses
  pub fails : new.fails ≡ s.fails

pub keeps_numbers : (i : ℕ) (s new : SimState) (sent : Option (Command × ℕ × ℕ)) (reply : List ℕ)
    → Acts i s sent reply new → KeepsNumbers s new
keeps_numbers i s new None reply acts = subst (KeepsNumbers s) (sym acts.same) (record {
  failures = refl;
  losses = refl;
  fails = refl;
})
keeps_numbers i s new (Some sent) reply acts = by_command sent.0 acts
  where
    kept : (t : SimState) → new ≡ t → t.failures ≡ s.failures → t.losses ≡ s.losses → t.fails ≡ s.fails
        → KeepsNumbers s new
    kept t h a b c = subst (KeepsNumbers s) (sym h) (record { failures = a; losses = b; fails = c })

    of_branch : (ds : List SceneDevice) → AnswersBranch s ds reply new → KeepsNumbers s new
    of_branch [] h = kept _ h.same refl refl refl
    of_branch (d ∷ []) h = kept _ h.1 refl refl refl
    of_branch (d ∷ e ∷ ds) h = kept _ h.next refl refl refl

    of_mute : (o : Option SceneDevice)
        → MatchOption o (KeepsSilent s reply new) (λ d. Mutes s d sent.1 sent.2 reply new) → KeepsNumbers s new
    of_mute None h = kept _ h.same refl refl refl
    of_mute (Some d) h = kept _ h.mutes refl refl refl

    of_class : (r : Request) (p : ParameterState) (k : ReqClass) → AnswersOf s r sent.1 sent.2 p k reply new
        → KeepsNumbers s new
    of_class r p Get h = kept _ h.sent refl refl refl
    of_class r p Set h = kept _ h.same refl refl refl

    of_parameter : (r : Request) (o : Option ParameterState)
        → MatchOption o (Refuses s r sent.1 sent.2 (answers_class r.class) reply new)
        (λ p. AnswersOf s r sent.1 sent.2 p r.class reply new) → KeepsNumbers s new
    of_parameter r None h = kept _ h.same refl refl refl
    of_parameter r (Some p) h = of_class r p r.class h

    of_request : (r : Request) (o : Option SceneDevice)
        → MatchOption o (KeepsSilent s reply new) (λ d. AnswersRequest s r sent.1 sent.2 d reply new)
        → KeepsNumbers s new
    of_request r None h = kept _ h.same refl refl refl
    of_request r (Some d) h = of_parameter r (parameter_of r.pid d.params) h

    by_command : (c : Command) → ActsOn i s c sent.1 sent.2 reply new → KeepsNumbers s new
    by_command Unmute h = kept _ h.unmuted refl refl refl
    by_command (Branch range) h = of_branch (answering i s range) h
    by_command (Mute u) h = of_mute (device_at i s.devices u) h
    by_command (Requested r) h = of_request r (device_at i s.devices r.target) h

-- a step that fails, and one at which the devices act
pub step_fails : (s : SimState) (x : Exchange) (new : SimState) → IsSoundState s → is_among s.exchanges s.fails ≡ true
    → FailsOnly s x.1 new → SimStep s x new
step_fails s x new sound fails only = record { sound = sound; rule = rw fails only }

pub step_acts : (s : SimState) (x : Exchange) (new : SimState) → IsSoundState s → is_among s.exchanges s.fails ≡ false
    → Exchanges s x new → SimStep s x new
step_acts s x new sound acts exchange = record { sound = sound; rule = rw acts exchange }

-- a reply that is lost, and one that comes
pub heard_lost : (lost : Bool) (reply : List ℕ) (came : ArrayVec ℕ) → lost ≡ true → came.items ≡ []
    → IsHeard lost reply (Reply came)
heard_lost lost reply came is none = ap (λ l. Reply (record { items = l })) (none ∙ ap (λ t. cond t [] reply) (sym is))

pub heard_whole : (lost : Bool) (came : ArrayVec ℕ) → lost ≡ false → IsHeard lost came.items (Reply came)
heard_whole lost came is = ap (λ t. Reply (record { items = cond t [] came.items })) (sym is)

-- an exchange that is among some numbers isn't the last
pub among_counts : (e : ℕ) (numbers : List ℕ) → is_among e numbers ≡ true → next_exchange e ≡ e + 1
among_counts e numbers is = ap (λ t. cond t (e + 1) e) (and_parts (nat_lt e last_exchange) (has numbers e) is).0
