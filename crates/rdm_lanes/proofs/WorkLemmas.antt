-- What the steps of a worker leave, one after the other.
use Rattle.rdm_lanes.proofs.Common.{◌≡◌, ◌≤◌, ◌+◌, ℕ, Bool, false, List, refl, ◌∙◌, ap, subst, LogState}
use Rattle.rdm_lanes.proofs.Common.{Option, None, Some, arith, IfNone, IsPrefix, Consumer, SameConsumer, Exchange}
use Rattle.rdm_lanes.proofs.Common.{Worker, NoExchange, OnlyCollects, SameSwitches, Exchanged, exchange_count, Legal}
use Rattle.rdm_lanes.proofs.Common.{AreTurns, DeviceView, Ghosts, Publishing, StepsAlone}
use Rattle.left_right.specs.declared.Absorb.{Ghosts as Absorbs}
use Rattle.rdm_lanes.specs.declared.views.publishing.Shown.{Shown}
use Rattle.rdm_lanes.specs.declared.worker.view_worker.ViewWorker.{ViewWorker}
use Rattle.rdm_lanes.specs.declared.worker.working.Attempt.{Attempt}
use Rattle.rdm_lanes.specs.declared.worker.working.Attempt.TheVariants.{Exchanged as MadeOne, NothingToSend}
use Rattle.rdm_lanes.specs.declared.worker.working.Attempt.TheVariants.{LogFull as NoRoom}
use Rattle.rdm_lanes.specs.body.Doing.{SameOperator}
use Rattle.rdm_lanes.specs.body.Steps.{CallsAndAttempts, Did, MovesAll, PublishesNext, Steps, Turned, ViewSteps}
use Rattle.rdm_lanes.proofs.LaneLemmas.{same_lanes, same_lanes_join}
use Rattle.rdm_lanes.proofs.LineLemmas.{switches_same, switches_join, line_same, line_join}
use Rattle.rdm_lanes.proofs.CollectLemmas.{collects_line, no_send_stays, full_stays}
use Rattle.rdm_lanes.proofs.ExchangeLemmas.{exchanged_none, exchanged_join, no_more}
use Rattle.rdm_lanes.proofs.Fronts.{prefix_trans}

-- the operator's ring is the same one
ring_join : {T A P : Type 0} (a b c : Consumer T A P) → SameConsumer a b → SameConsumer b c → SameConsumer a c
ring_join a b c s t = ((t.0.0 ∙ s.0.0, t.0.1 ∙ s.0.1, t.0.2 ∙ s.0.2, t.0.3 ∙ s.0.3), t.1 ∙ s.1)

-- steps in a row
pub steps_none : (w : Worker) → Steps w w
steps_none w = record {
  lanes = same_lanes w.lanes.items;
  ring = ((refl, refl, refl, refl), refl);
  operator = λ left. (left, switches_same w.session);
}

pub steps_join : (a b d : Worker) → Steps a b → Steps b d → Steps a d
steps_join a b d p q = record {
  lanes = same_lanes_join a.lanes.items b.lanes.items d.lanes.items p.lanes q.lanes;
  ring = ring_join a.operator b.operator d.operator p.ring q.ring;
  operator = λ left.
      let first = p.operator left in
      let second = q.operator first.0 in
      (second.0, switches_join a.session b.session d.session first.1 second.1);
}

pub alone_none : (w : Worker) → StepsAlone w w
alone_none w = record {
  lanes = same_lanes w.lanes.items;
  operator = (refl, refl);
  switches = switches_same w.session;
}

pub alone_join : (a b d : Worker) → StepsAlone a b → StepsAlone b d → StepsAlone a d
alone_join a b d p q = record {
  lanes = same_lanes_join a.lanes.items b.lanes.items d.lanes.items p.lanes q.lanes;
  operator = (q.operator.0 ∙ p.operator.0, q.operator.1 ∙ p.operator.1);
  switches = switches_join a.session b.session d.session p.switches q.switches;
}

pub steps_alone : (a b : Worker) → StepsAlone a b → Steps a b
steps_alone a b p = record {
  lanes = p.lanes;
  ring = rw p.operator.0 ((refl, refl, refl, refl), refl);
  operator = λ left. (p.operator.1 ∙ left, p.switches);
}

pub steps_within : (a b : Worker) → b.lanes.items ≡ a.lanes.items → SameOperator a b
    → SameSwitches a.session b.session → Steps a b
steps_within a b lanes operator switches =
    steps_alone a b
    (record { lanes = rw lanes (same_lanes a.lanes.items); operator = operator; switches = switches })

-- what holds where a turn doesn't end the work
pub goes_on : {E : Type 0} {P : Type 0} (end : Option E) → ((e : E) → end ≡ Some e → ⊥) → IfNone end P → P
goes_on None other is = is
goes_on (Some e) other is = absurd (other e refl)

-- what an attempt came to, after calls, and before outcomes are moved
did_since : (attempt : Attempt) (k m n : LogState) → NoExchange k m → Did attempt m n → Did attempt k n
did_since MadeOne k m n line did = did ∙ ap (λ (i : ℕ). i + 1) (no_more k m line)
did_since NothingToSend k m n line did = did
did_since NoRoom k m n line did = did

did_still : (attempt : Attempt) (k m n : LogState) → OnlyCollects m n → Legal n.opening n.entries → Did attempt k m
    → Did attempt k n
did_still MadeOne k m n collects legal did = no_more m n (collects_line m n collects) ∙ did
did_still NothingToSend k m n collects legal did = no_send_stays m n collects did
did_still NoRoom k m n collects legal did = full_stays m n collects legal ∙ did

module _ {J T R : Type 0} {h : Ghosts J} {v : Absorbs T (Shown J) (List DeviceView)} where
  -- the same with views
  pub view_steps_join : (a b d : ViewWorker J T R h v) → ViewSteps a b → ViewSteps b d → ViewSteps a d
  view_steps_join a b d s t = record {
    server = steps_join a.server b.server d.server s.server t.server;
    shown = prefix_trans a.views.shown b.views.shown d.views.shown s.shown t.shown;
  }

  shown_since : (a b d e : ViewWorker J T R h v) → IsPrefix a.views.shown b.views.shown → d.views ≡ b.views
      → IsPrefix d.views.shown e.views.shown → IsPrefix a.views.shown e.views.shown
  shown_since a b d e first same later =
      prefix_trans a.views.shown b.views.shown e.views.shown first
      (subst (λ (p : Publishing). IsPrefix p.shown e.views.shown) same later)

module _ {L : Type 0} (step : L → Exchange → L → Type 0) where
  -- calls were made and an exchange was attempted, between two publications
  record Attempts (x : L) (a : Worker) (y : L) (b : Worker) (attempt : Attempt) : Type 0 where
    exchanged : Exchanged step x a.session y b.session
    one : exchange_count b.session ≤ exchange_count a.session + 1
    did : Did attempt a.session b.session
    steps : Steps a b

module _ {L J T R : Type 0} {h : Ghosts J} {v : Absorbs T (Shown J) (List DeviceView)}
    (step : L → Exchange → L → Type 0) where
  attempts : (x y : L) (a b d e : ViewWorker J T R h v) (i j : Bool) (attempt : Attempt) → PublishesNext a i b
      → CallsAndAttempts step x b y d attempt → PublishesNext d j e
      → Attempts step x a.server y e.server attempt
  attempts x y a b d e i j attempt p c q =
      let old = b.server.session in
      let called = c.after_operator.session in
      let line = line_join old c.after_clients.session called c.clients.grows c.operator.line in
      rw (q.server, ← p.server) (record {
        exchanged = exchanged_join step x x y old called d.server.session (exchanged_none step x old called line)
            c.attempted.exchanged;
        one = omega (arith, c.attempted.one, no_more old called line);
        did = did_since attempt old called d.server.session line c.attempted.did;
        steps = steps_join b.server c.after_operator d.server
            (steps_join b.server c.after_clients c.after_operator
            (steps_alone b.server c.after_clients c.clients.steps) c.operator.steps)
            (steps_within c.after_operator d.server (ap (λ v. v.items) c.ends.0) c.ends.1 c.attempted.switches);
      })

  -- the first publication failed
  pub turned_not : (x : L) (a b : ViewWorker J T R h v) (i : Bool) → PublishesNext a i b → i ≡ false
      → Turned step x a x b None
  turned_not x a b i p refused = record {
    exchanged = exchanged_none step x a.server.session b.server.session (rw p.server (line_same a.server.session));
    one = omega (arith, ap (λ (w : Worker). exchange_count w.session) p.server);
    steps = record { server = rw p.server (steps_none a.server); shown = p.views };
    did = tt;
    refused = p.refused refused;
    count = p.count;
  }

  -- the second one failed
  pub turned_unpublished : (x y : L) (a b d e : ViewWorker J T R h v) (i j : Bool) (attempt : Attempt)
      → PublishesNext a i b → CallsAndAttempts step x b y d attempt → PublishesNext d j e → j ≡ false
      → Turned step x a y e None
  turned_unpublished x y a b d e i j attempt p c q refused =
      let made = attempts x y a b d e i j attempt p c q in
      record {
        exchanged = made.exchanged;
        one = made.one;
        steps = record {
          server = made.steps;
          shown = shown_since a b d e p.views c.views.0 q.views;
        };
        did = tt;
        refused = q.refused refused;
        count = q.count ∙ c.views.1 ∙ p.count;
      }

  -- outcomes were moved
  pub turned : (x y : L) (a b d e f : ViewWorker J T R h v) (i j : Bool) (attempt : Attempt) → PublishesNext a i b
      → CallsAndAttempts step x b y d attempt → PublishesNext d j e → MovesAll e f
      → Legal f.server.session.opening f.server.session.entries → Turned step x a y f (Some attempt)
  turned x y a b d e f i j attempt p c q m legal =
      let made = attempts x y a b d e i j attempt p c q in
      let mid = e.server.session in
      let new = f.server.session in
      let line = collects_line mid new m.moved.grows in
      record {
        exchanged = exchanged_join step x y y a.server.session mid new made.exchanged
            (exchanged_none step y mid new line);
        one = omega (arith, made.one, no_more mid new line);
        steps = record {
          server = steps_join a.server e.server f.server made.steps (steps_alone e.server f.server m.moved.steps);
          shown = rw m.views.0 (shown_since a b d e p.views c.views.0 q.views);
        };
        did = (m.published, did_still attempt a.server.session mid new m.moved.grows legal made.did);
        refused = tt;
        count = m.views.1 ∙ q.count ∙ c.views.1 ∙ p.count;
      }

  -- the worker made this many turns, as it counted
  pub record Worked (turns : ℕ) (x : L) (a : ViewWorker J T R h v) (y : L) (b : ViewWorker J T R h v) : Type 0 where
    pub exchanged : Exchanged step x a.server.session y b.server.session
    pub turns_are : AreTurns turns a.server.session a.views.shown b.server.session b.views.shown
    pub few : exchange_count b.server.session ≤ exchange_count a.server.session + turns
    pub count : b.turns_made ≡ turns
    pub steps : ViewSteps a b
