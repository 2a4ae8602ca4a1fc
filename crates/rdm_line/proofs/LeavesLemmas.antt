-- What each step of the simulated line leaves as it was.
use Rattle.std.proofs.Common.{◌≡◌, ℕ, List, [], ◌∷◌, Option, Some, None, refl, sym, ap, subst}
use Rattle.std.specs.Prelude.{MatchOption}
use Rattle.rdm_wire.specs.declared.command.Command.{Command}
use Rattle.rdm_wire.specs.declared.command.Command.TheVariants.{Unmute, Branch, Mute, Request as Requested}
use Rattle.rdm_wire.specs.declared.request.Request.{Request}
use Rattle.rdm_wire.specs.declared.request.ReqClass.{ReqClass}
use Rattle.rdm_wire.specs.declared.request.ReqClass.TheVariants.{Get, Set}
use Rattle.rdm_line.specs.Parameters.{ParameterState, parameter_of}
use Rattle.rdm_line.specs.Scenes.{device_at, present_at}
use Rattle.rdm_line.specs.Sim.{SimState, Acts, ActsOn, AnswersBranch, AnswersRequest, AnswersOf, Refuses, KeepsSilent}
use Rattle.rdm_line.specs.Sim.{Mutes, answers_class, answering, counted, next_exchange}
use Rattle.rdm_line.specs.SimSound.{from_of}
use Rattle.rdm_line.specs.declared.scene.SceneDevice.{SceneDevice}
use Rattle.rdm_line.proofs.SoundLemmas.{from-sent}
use Rattle.rdm_line.proofs.PresenceLemmas.{present-sent}

-- what a step leaves of the devices and of the count
pub record Leaves (s new : SimState) : Type 0 where
  pub exchanges : new.exchanges ≡ next_exchange s.exchanges
  pub present : (i : ℕ) → present_at new.devices i ≡ present_at s.devices i
  pub from : (u : ℕ) → from_of new.devices u ≡ from_of s.devices u

left_so : (s new t : SimState) → new ≡ t → Leaves s t → Leaves s new
left_so s new t is leaves = subst (Leaves s) (sym is) leaves

leaves_devices : (s : SimState) (t : SimState) → t.exchanges ≡ next_exchange s.exchanges → t.devices ≡ s.devices
    → Leaves s t
leaves_devices s t e d = record {
  exchanges = e;
  present = λ i. ap (λ ds. present_at ds i) d;
  from = λ u. ap (λ ds. from_of ds u) d;
}

-- after a request only the devices' parameters may differ
pub record KeepsRequest (s new : SimState) : Type 0 where
  pub leaves : Leaves s new
  pub muted : new.muted ≡ s.muted

kept_request : (s new t : SimState) → new ≡ t → KeepsRequest s t → KeepsRequest s new
kept_request s new t is keeps = subst (KeepsRequest s) (sym is) keeps

pub after_request : (s new : SimState) (r : Request) (source tn : ℕ) (reply : List ℕ) (o : Option SceneDevice)
    → MatchOption o (KeepsSilent (counted s) reply new) (λ d. AnswersRequest (counted s) r source tn d reply new)
    → KeepsRequest s new
after_request s new r source tn reply None h = kept_request s new (counted s) h.same (record {
  leaves = leaves_devices s (counted s) refl refl;
  muted = refl;
})
after_request s new r source tn reply (Some d) h = of_parameter (parameter_of r.pid d.params) h
  where
    same : new ≡ counted s → KeepsRequest s new
    same is = kept_request s new (counted s) is (record {
      leaves = leaves_devices s (counted s) refl refl;
      muted = refl;
    })

    of_class : (p : ParameterState) (k : ReqClass) → AnswersOf (counted s) r source tn p k reply new
        → KeepsRequest s new
    of_class p Get g = kept_request s new _ g.sent
        (record {
          leaves = record {
            exchanges = refl;
            present = present-sent r.target r.pid s.devices;
            from = from-sent r.target r.pid s.devices;
          };
          muted = refl;
        })
    of_class p Set g = same g.same

    of_parameter : (q : Option ParameterState) → MatchOption q
        (Refuses (counted s) r source tn (answers_class r.class) reply new)
        (λ p. AnswersOf (counted s) r source tn p r.class reply new) → KeepsRequest s new
    of_parameter None g = same g.same
    of_parameter (Some p) g = of_class p r.class g

pub acts_leave : (s new : SimState) (sent : Option (Command × ℕ × ℕ)) (reply : List ℕ)
    → Acts s.exchanges (counted s) sent reply new → Leaves s new
acts_leave s new None reply acts = left_so s new (counted s) acts.same (leaves_devices s (counted s) refl refl)
acts_leave s new (Some sent) reply acts = by_command sent.0 acts
  where
    kept : (t : SimState) → new ≡ t → t.exchanges ≡ next_exchange s.exchanges → t.devices ≡ s.devices → Leaves s new
    kept t is e d = left_so s new t is (leaves_devices s t e d)

    of_branch : (ds : List SceneDevice) → AnswersBranch (counted s) ds reply new → Leaves s new
    of_branch [] h = kept _ h.same refl refl
    of_branch (d ∷ []) h = kept _ h.1 refl refl
    of_branch (d ∷ e ∷ ds) h = kept _ h.next refl refl

    of_mute : (o : Option SceneDevice)
        → MatchOption o (KeepsSilent (counted s) reply new) (λ d. Mutes (counted s) d sent.1 sent.2 reply new)
        → Leaves s new
    of_mute None h = kept _ h.same refl refl
    of_mute (Some d) h = kept _ h.mutes refl refl

    by_command : (c : Command) → ActsOn s.exchanges (counted s) c sent.1 sent.2 reply new → Leaves s new
    by_command Unmute h = kept _ h.unmuted refl refl
    by_command (Branch range) h = of_branch (answering s.exchanges (counted s) range) h
    by_command (Mute u) h = of_mute (device_at s.exchanges s.devices u) h
    by_command (Requested r) h =
        (after_request s new r sent.1 sent.2 reply (device_at s.exchanges s.devices r.target) h).leaves
