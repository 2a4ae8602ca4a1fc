-- A log that grows.
use Rattle.rdm_log.proofs.Common.{List, [], ◌∷◌, ◌++◌, refl, EachAfter, EachAfter-push, Opening, Entry, accepts}
use Rattle.rdm_log.proofs.Common.{asks, sends, finishes, answers, last_run, MayFollow, Legal}
use Rattle.rdm_wire.proofs.EachAfterLemmas.{EachAfter-front, no_element}

pub pushed : (o : Opening) (h : List Entry) (e : Entry) → EachAfter (MayFollow o) h → MayFollow o h e
    → EachAfter (MayFollow o) (h ++ e ∷ [])
pushed o h e all last = EachAfter-push (MayFollow o) h e all last

pub front : (o : Opening) (h more : List Entry) → EachAfter (MayFollow o) (h ++ more) → EachAfter (MayFollow o) h
front o h more all = EachAfter-front (MayFollow o) h more all

pub empty : (o : Opening) → Legal o []
unfolding accepts asks sends finishes answers last_run
empty o = record {
  each = λ before back e w. absurd (no_element before back e w);
  settled = record {
    results_open = tt;
    runs_answered = tt;
    run_goes_on = tt;
    all_closed = λ closed waits. (refl, refl);
  };
}
