-- What collects leave as it is.
use Rattle.rdm_lanes.proofs.Common.{◌≡◌, ℕ, Bool, true, false, true≢false, List, [], ◌∷◌, ◌++◌, None, refl, sym, ap}
use Rattle.rdm_lanes.proofs.Common.{◌∙◌, subst, inl, inr, append-nil, append_assoc, arith, nat_lt, AllByRecursion}
use Rattle.rdm_lanes.proofs.Common.{ArrayVec, EachAfter, ClientId, Opening, Entry, Collect, join_of, answered_of}
use Rattle.rdm_lanes.proofs.Common.{NoSend, MayBegin, Legal, MayFollow, LogState, is_full_log, free_entries, NoExchange}
use Rattle.rdm_lanes.proofs.Common.{OnlyCollects, SameSwitches}
use Rattle.rdm_log.specs.declared.entry.Owner.TheVariants as owners
use Rattle.rdm_log.specs.log.MaySend.{MaySendRequest, MaySendRun}
use Rattle.rdm_log.proofs.LogLemmas.RunningLemmas.{run_pushes}
use Rattle.rdm_log.proofs.LogLemmas.RoomLemmas.{added, added_by, used_block}
use Rattle.rdm_lanes.specs.body.Quiet.{is_collect}
use Rattle.rdm_lanes.proofs.FoundLemmas.{quiet_views}
use Rattle.rdm_lanes.proofs.LineLemmas.{is_off_line, is_switch, line_off, switches_stay, grown_join, grown_same}

abbrev pub AllCollects : List Entry → Type 0
AllCollects block = AllByRecursion (λ e. is_collect e ≡ true) block

all_join : (block more : List Entry) → AllCollects block → AllCollects more → AllCollects (block ++ more)
all_join [] more all rest = rest
all_join (e ∷ block) more all rest = (all.0, all_join block more all.1 rest)

pub collects_none : (k : LogState) → OnlyCollects k k
collects_none k = record { block = []; each = tt; grows = grown_same k }

pub collects_join : (a b d : LogState) → OnlyCollects a b → OnlyCollects b d → OnlyCollects a d
collects_join a b d p q = record {
  block = p.block ++ q.block;
  each = all_join p.block q.block p.each q.each;
  grows = grown_join a b d p.block q.block p.grows q.grows;
}

collects_each : (P : Entry → Type 0) → ((c : ClientId) → P (Collect c)) → (block : List Entry) → AllCollects block
    → AllByRecursion P block
collects_each P each [] all = tt
collects_each P each (Collect c ∷ block) all = (each c, collects_each P each block all.1)
collects_each P each (_ ∷ block) all = absurd (true≢false (sym all.0))

-- collects are no frames, replies or joins, and add no view
pub collects_line : (old new : LogState) → OnlyCollects old new → NoExchange old new
collects_line old new is =
    let off = collects_each (λ e. is_off_line e ≡ true) (λ c. refl) is.block is.each in
    line_off old new is.block is.grows off (collects_each (λ e. join_of e ≡ None) (λ c. refl) is.block is.each)
    (quiet_views old.entries is.block off
    (collects_each (λ e. answered_of e ≡ None) (λ c. refl) is.block is.each))

-- nor do they pause, resume or close
pub collects_switches : (old new : LogState) → OnlyCollects old new → SameSwitches old new
collects_switches old new is = switches_stay old new is.block is.grows
    (collects_each (λ e. is_switch e ≡ false) (λ c. refl) is.block is.each)

-- as many entries are free
collects_need_nothing : (block : List Entry) → AllByRecursion (λ e. added e ≡ 0) block → added_by block ≡ 0
collects_need_nothing [] all = refl
collects_need_nothing (e ∷ block) all = omega (arith, all.0, collects_need_nothing block all.1)

free_stays : (o : Opening) (h block : List Entry) (room : ℕ) (gone : ℕ) (keeps : Bool)
    → EachAfter (MayFollow o) (h ++ block) → AllCollects block
    → free_entries (record {
      opening = o;
      entries = h ++ block;
      room = room;
      gone = gone;
      keeps = keeps;
    })
    ≡ free_entries (record {
      opening = o;
      entries = h;
      room = room;
      gone = gone;
      keeps = keeps;
    })
free_stays o h block room gone keeps each all =
    omega (
      arith,
      used_block o h block each,
      collects_need_nothing block (collects_each (λ e. added e ≡ 0) (λ c. refl) block all),
    )

pub full_stays : (old new : LogState) → OnlyCollects old new → Legal new.opening new.entries
    → is_full_log new ≡ is_full_log old
full_stays old new is legal =
    let each : EachAfter (MayFollow old.opening) (old.entries ++ is.block) = subst
    (λ (k : LogState). EachAfter (MayFollow k.opening) k.entries) is.grows legal.each in
    ap is_full_log is.grows
    ∙ ap (λ (n : ℕ). nat_lt n 3) (free_stays old.opening old.entries is.block old.room old.gone
    old.keeps each is.each)

-- where no frame might be sent, none may be
module _ (o : Opening) (h : List Entry) (c : ClientId) where
  next : List Entry
  next = h ++ Collect c ∷ []

  request_before : (n : ℕ) (frame : ArrayVec ℕ) → MaySendRequest o (h ++ Collect c ∷ []) n frame
      → MaySendRequest o h n frame
  request_before n frame may = record {
    not_awaited = simp run_pushes at may.not_awaited;
    not_closed = simp run_pushes at may.not_closed;
    not_paused = simp run_pushes at may.not_paused;
    no_run = simp run_pushes at may.no_run;
    accepted = may.accepted;
    lowest = simp run_pushes at may.lowest;
    number = may.number;
    turn = simp run_pushes at may.turn;
    packet = simp run_pushes at may.packet;
  }

  begin_before : (r : ℕ) → MayBegin o (h ++ Collect c ∷ []) r → MayBegin o h r
  begin_before r may = record {
    not_paused = simp run_pushes at may.not_paused;
    no_run = simp run_pushes at may.no_run;
    no_request = simp run_pushes at may.no_request;
    asked = simp run_pushes at may.asked;
    number = simp run_pushes at may.number;
    from_one = may.from_one;
  }

  run_before : (r : ℕ) (frame : ArrayVec ℕ) → MaySendRun o (h ++ Collect c ∷ []) r frame → MaySendRun o h r frame
  run_before r frame may = record {
    not_awaited = simp run_pushes at may.not_awaited;
    not_closed = simp run_pushes at may.not_closed;
    turn = elim may.turn [ inl begins ↦ inl (begin_before r begins) | inr open_ ↦ inr (simp run_pushes at open_) ];
    in_budget = simp run_pushes at may.in_budget;
    packet = simp run_pushes at may.packet;
  }

  pub no_send_one : NoSend o h → NoSend o (h ++ Collect c ∷ [])
  no_send_one none (owners.Request n) frame may = none (owners.Request n) frame (request_before n frame may)
  no_send_one none (owners.Run r) frame may = none (owners.Run r) frame (run_before r frame may)

no_send_entry : (o : Opening) (h : List Entry) (e : Entry) → is_collect e ≡ true → NoSend o h → NoSend o (h ++ e ∷ [])
no_send_entry o h (Collect c) is none = no_send_one o h c none
no_send_entry o h _ is none = absurd (true≢false (sym is))

no_send_block : (o : Opening) (h block : List Entry) → AllCollects block → NoSend o h → NoSend o (h ++ block)
no_send_block o h [] all none = subst (NoSend o) (sym (append-nil h)) none
no_send_block o h (e ∷ block) all none =
    subst (NoSend o) (append_assoc h (e ∷ []) block)
    (no_send_block o (h ++ e ∷ []) block all.1 (no_send_entry o h e all.0 none))

pub no_send_stays : (old new : LogState) → OnlyCollects old new → NoSend old.opening old.entries
    → NoSend new.opening new.entries
no_send_stays old new is none =
    subst (λ (k : LogState). NoSend k.opening k.entries) (sym is.grows)
    (no_send_block old.opening old.entries is.block is.each none)
