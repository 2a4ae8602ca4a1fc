-- Steps of the simulated line are honest.
use Rattle.std.proofs.Common.{◌≡◌, ℕ, ◌+◌, ◌<◌, ◌≤◌, ◌^◌, Bool, true, false, cond, List, [], ◌∷◌, ◌++◌, length, Option}
use Rattle.std.proofs.Common.{Some, None, refl, sym, ap, ◌∙◌, subst, inl, inr, true≢false, append-nil, arith}
use Rattle.std.specs.Prelude.{◌⊎◌, ◌==◌, ◌&&◌, ◌||◌, not, nat_le, filter, is_some, MatchOption}
use Rattle.std.specs.List.{AllByRecursion}
use Rattle.std.proofs.lemmas.Bool.{eqb-true, eq-eqb, and_parts, cases_Bool, leb-true}
use Rattle.std.proofs.Math.Bool.{and-false}
use Rattle.hex.specs.Hex.{IsBytes}
use Rattle.rdm_wire.specs.Uid.{has, is_within, is_broadcast, with_uid, IsDevice}
use Rattle.rdm_wire.specs.Span.{Span}
use Rattle.rdm_wire.specs.Bytes.{two_bytes}
use Rattle.rdm_wire.specs.BranchText.{branch_text}
use Rattle.rdm_wire.specs.Reading.{text_read}
use Rattle.rdm_wire.specs.Packet.{packet, fields_at}
use Rattle.rdm_wire.specs.Responses.{fields_of}
use Rattle.rdm_wire.specs.MuteAcks.{MuteAcked}
use Rattle.rdm_wire.specs.MuteResponses.{mute_response, binding_bytes}
use Rattle.rdm_wire.specs.Commands.{Writes, command_fields, command_read, asked_by_command, AsksNobody, AsksSo}
use Rattle.rdm_wire.specs.Frames.{asked_in, heard_in, heard_bytes, one_or_noise, acked_or_noise}
use Rattle.rdm_wire.specs.Honest.{Asked, Heard, LineState, HonestStep, MuteMoves, MayReply, LineCounts, due_in}
use Rattle.rdm_wire.specs.Honest.{is_silent, is_acked, lost_after}
use Rattle.rdm_wire.specs.Honest.Asked.{Unmute as Unmuted, Branch as Branched, Mute as Muted, Other}
use Rattle.rdm_wire.specs.Honest.Heard.{Silent, One}
use Rattle.rdm_wire.specs.declared.command.Command.{Command}
use Rattle.rdm_wire.specs.declared.command.Command.TheVariants.{Unmute, Branch, Mute, Request as Requested}
use Rattle.rdm_wire.proofs.PacketLemmas.{fields_at-packet}
use Rattle.rdm_wire.proofs.CommandReads.{writes-of_read, source_is, tn_is}
use Rattle.rdm_wire.proofs.CommandAsks.{asks_so}
use Rattle.rdm_wire.proofs.Text.{text_read-of}
use Rattle.rdm_wire.proofs.BranchLemmas.{branch_text_reads}
use Rattle.rdm_wire.proofs.Acknowledged.{ack_read-of}
use Rattle.rdm_wire.proofs.SetLemmas.{has-with_uid}
use Rattle.rdm_join.specs.Exchange.{bytes_heard}
use Rattle.rdm_join.specs.declared.event.LineEvent.TheVariants.{Reply}
use Rattle.rdm_line.specs.Scenes.{IsSceneDevice, uids_of_scene, device_at}
use Rattle.rdm_line.specs.Sim.{SimState, IsSoundState, Exchanges, Acts, ActsOn, AnswersBranch, KeepsSilent, Mutes}
use Rattle.rdm_line.specs.Sim.{answering, is_among, counted}
use Rattle.rdm_line.specs.SimSteps.{Step, present_in, seen_in, LosesBranch, LosesMute}
use Rattle.rdm_line.specs.declared.scene.SceneDevice.{SceneDevice}
use Rattle.rdm_line.proofs.AnsweringLemmas.{reply_some}
use Rattle.rdm_line.proofs.SoundLemmas.{IsDeviceAt, device_at_is}
use Rattle.rdm_line.proofs.PresenceLemmas.{present_set, present_is, due_is, muted_among}
use Rattle.rdm_line.proofs.LeavesLemmas.{after_request}

-- the state of the honest line, with the devices muted that are present and muted
abbrev pub line_state : List ℕ → List ℕ → ℕ → ℕ → ℕ → LineState
line_state present muted b m n = record {
  muted = muted_among present muted;
  lost_branches = b;
  lost_mutes = m;
  unmutes = n;
}

-- an honest step, with the counts of lost replies after it
pub record HonestAfter (x : Step) (next : SimState) (b m n : ℕ) : Type 0 where
  pub lost_branches : ℕ
  pub lost_mutes : ℕ
  pub unmutes : ℕ
  pub step : HonestStep (present_in x) (line_state (present_in x) x.before.muted b m n) (seen_in x).asked
      (seen_in x).heard (line_state (present_in x) next.muted lost_branches lost_mutes unmutes)
  pub branches : (lost_branches ≡ 0) ⊎ ((lost_branches ≡ b + 1) × LosesBranch x)
  pub mutes : (lost_mutes ≡ 0) ⊎ ((lost_mutes ≡ m + 1) × LosesMute x)
  pub few_branches : lost_branches ≤ 4
  pub few_mutes : lost_mutes ≤ 4

-- a step with the counts 0
quiet : (x : Step) (next : SimState) (b m n k : ℕ)
    → HonestStep (present_in x) (line_state (present_in x) x.before.muted b m n) (seen_in x).asked (seen_in x).heard
    (line_state (present_in x) next.muted 0 0 k) → HonestAfter x next b m n
quiet x next b m n k step = record {
  lost_branches = 0;
  lost_mutes = 0;
  unmutes = k;
  step = step;
  branches = inl refl;
  mutes = inl refl;
  few_branches = omega arith;
  few_mutes = omega arith;
}

seen_as : (p : List ℕ) (old new : LineState) (asked a : Asked) (heard h : Heard) → asked ≡ a → heard ≡ h
    → HonestStep p old a h new → HonestStep p old asked heard new
seen_as p old new asked a heard h q r step =
    subst (λ y. HonestStep p old y heard new) (sym q) (subst (λ y. HonestStep p old a y new) (sym r) step)

-- how an exchange is heard
heard_as : (x : Step) (bytes : List ℕ) → x.exchange.1 ≡ Reply (record { items = bytes }) → (a : Asked) (s tn : ℕ)
    → asked_in x.exchange.0.items ≡ a → (fields_at x.exchange.0.items).source ≡ s
    → (fields_at x.exchange.0.items).tn ≡ tn
    → (seen_in x).heard ≡ heard_bytes s tn a bytes
heard_as x bytes event a s tn p q r =
    ap (λ e. heard_in x.exchange.0.items (bytes_heard e)) event
    ∙ ap (λ y. heard_bytes y (fields_at x.exchange.0.items).tn (asked_in x.exchange.0.items) bytes) q
    ∙ ap (λ y. heard_bytes s y (asked_in x.exchange.0.items) bytes) r ∙ ap (λ y. heard_bytes s tn y bytes) p

counts : (p muted : List ℕ) (b m n : ℕ) → b ≤ 4 → m ≤ 4 → LineCounts (line_state p muted b m n) b m n
counts p muted b m n fb fm = record { branches = refl; mutes = refl; unmutes = refl; few_branches = fb; few_mutes = fm }

keeps : (p : List ℕ) (new old : List ℕ) → new ≡ old → (v : ℕ) → muted_among p new v ≡ muted_among p old v
keeps p new old is v = ap (λ us. muted_among p us v) is

-- a branch, by the devices that are due to answer it
branch_step : (p : List ℕ) (old new : LineState) (lo hi : ℕ) (heard : Heard) (due : List ℕ)
    → due_in p old.muted lo hi ≡ due → MayReply due heard → ((u : ℕ) → new.muted u ≡ old.muted u)
    → LineCounts new (lost_after due heard old.lost_branches) 0 0 → HonestStep p old (Branched lo hi) heard new
branch_step p old new lo hi heard due is may same count = rw is (may, same, count)

-- a crossed branch asks nobody
crossed : (lo hi : ℕ) (muted : ℕ → Bool) (us : List ℕ) → hi < lo → due_in us muted lo hi ≡ []
crossed lo hi muted [] lt = refl
crossed lo hi muted (u ∷ us) lt = by_test (is_within lo hi u && not (muted u)) refl (crossed lo hi muted us lt)
  where
    by_test : (t : Bool) → (is_within lo hi u && not (muted u)) ≡ t → due_in us muted lo hi ≡ []
        → cond t (u ∷ due_in us muted lo hi) (due_in us muted lo hi) ≡ []
    by_test true is rest =
        let within = and_parts (nat_le lo u) (nat_le u hi) (and_parts (is_within lo hi u) (not (muted u)) is).0 in
        let low : lo ≤ u = leb-true lo u within.0 in let high : u ≤ hi = leb-true u hi within.1 in absurd (omega arith)
    by_test false is rest = rest

-- a broadcast UID is no device's
no_device : (us : List ℕ) (u : ℕ) → AllByRecursion IsDevice us → is_broadcast u ≡ true → has us u ≡ false
no_device [] u own all = refl
no_device (v ∷ us) u own all = elim (cases_Bool (u == v)) [
  | inl is ↦ absurd (true≢false (sym all ∙ ap is_broadcast (eqb-true u v is) ∙ own.0.own))
  | inr isnt ↦ ap (λ b. b || has us u) isnt ∙ no_device us u own.1 all
]

mute_absent : (p : List ℕ) (old new : LineState) (u : ℕ) (heard : Heard) → has p u ≡ false → heard ≡ Silent
    → ((v : ℕ) → new.muted v ≡ old.muted v) → LineCounts new 0 0 0 → HonestStep p old (Muted u) heard new
mute_absent p old new u heard absent silent same count = (λ v other. same v, rw absent (silent, same u, count))

mute_present : (p : List ℕ) (old new : LineState) (u : ℕ) (heard : Heard) → has p u ≡ true
    → ((v : ℕ) → (u == v) ≡ false → new.muted v ≡ old.muted v) → MuteMoves u old heard new
    → HonestStep p old (Muted u) heard new
mute_present p old new u heard there others moves = (others, rw there moves)

-- bytes that are no command
pub nobody_steps : (x : Step) (next : SimState) (b m n : ℕ) → IsSoundState x.before → IsBytes x.exchange.0.items
    → command_read x.exchange.0.items ≡ None → next.muted ≡ x.before.muted
    → x.exchange.1 ≡ Reply (record { items = [] }) → HonestAfter x next b m n
nobody_steps x next b m n sound bytes is same event =
    by_asked (asked_in x.exchange.0.items) refl
    (subst (λ o. AsksSo o (asked_in x.exchange.0.items)) is (asks_so x.exchange.0.items bytes))
  where
    p : List ℕ
    p = present_in x

    old : LineState
    old = line_state p x.before.muted b m n

    new : LineState
    new = line_state p next.muted 0 0 0

    silent : (seen_in x).heard ≡ Silent
    silent = ap (λ e. heard_in x.exchange.0.items (bytes_heard e)) event

    by_asked : (a : Asked) → asked_in x.exchange.0.items ≡ a → AsksNobody a → HonestAfter x next b m n
    by_asked Unmuted q h = absurd h
    by_asked (Branched lo hi) q h = quiet x next b m n 0 (seen_as p old new _ (Branched lo hi) _ Silent q silent
        (branch_step p old new lo hi Silent [] (crossed lo hi old.muted p h) refl
        (keeps p next.muted x.before.muted same) (counts p next.muted 0 0 0 (omega arith) (omega arith))))
    by_asked (Muted u) q h = quiet x next b m n 0 (seen_as p old new _ (Muted u) _ Silent q silent
        (mute_absent p old new u Silent (no_device p u
        (present_set x.before.devices x.before.exchanges sound.scene).devices h) refl
        (keeps p next.muted x.before.muted same) (counts p next.muted 0 0 0 (omega arith) (omega arith))))
    by_asked Other q h =
        quiet x next b m n 0
        (seen_as p old new _ Other _ Silent q silent
        (keeps p next.muted x.before.muted same, counts p next.muted 0 0 0 (omega arith) (omega arith)))

-- a command that was read
record Asks (x : Step) (c : Command) (so tn : ℕ) : Type 0 where
  writes : Writes c so tn x.exchange.0.items
  asked : asked_in x.exchange.0.items ≡ asked_by_command c
  source : (fields_at x.exchange.0.items).source ≡ so
  number : (fields_at x.exchange.0.items).tn ≡ tn

asks_command : (x : Step) (c : Command) (so tn : ℕ) → IsBytes x.exchange.0.items
    → command_read x.exchange.0.items ≡ Some (c, so, tn) → Asks x c so tn
asks_command x c so tn bytes is = record {
  writes = w;
  asked = subst (λ o. AsksSo o (asked_in x.exchange.0.items)) is (asks_so x.exchange.0.items bytes);
  source = ap (λ f. f.source) fields ∙ source_is c so tn;
  number = ap (λ f. f.tn) fields ∙ tn_is c so tn;
}
  where
    w : Writes c so tn x.exchange.0.items
    w = writes-of_read x.exchange.0.items c so tn bytes is

    fields : fields_at x.exchange.0.items ≡ command_fields c so tn
    fields = ap fields_at w.bytes ∙ fields_at-packet (command_fields c so tn) w.frame.fits

-- an unmute
unmute_after : (x : Step) (next : SimState) (b m n so tn : ℕ) → Asks x Unmute so tn → next.muted ≡ []
    → HonestAfter x next b m n
unmute_after x next b m n so tn asks gone =
    quiet x next b m n (n + 1)
    (seen_as p (line_state p x.before.muted b m n) (line_state p next.muted 0 0 (n + 1)) _ Unmuted _ _ asks.asked
    refl (
      λ u. record { fewer = λ h. absurd (true≢false (sym h ∙ unmuted u)); third = λ h. unmuted u },
      counts p next.muted 0 0 (n + 1) (omega arith) (omega arith),
    ))
  where
    p : List ℕ
    p = present_in x

    unmuted : (u : ℕ) → muted_among p next.muted u ≡ false
    unmuted u = ap (λ us. muted_among p us u) gone ∙ and-false (has p u)

-- a mute of a UID that isn't present
mute_nobody_after : (x : Step) (next : SimState) (b m n u so tn : ℕ) → IsSoundState x.before → Asks x (Mute u) so tn
    → device_at x.before.exchanges x.before.devices u ≡ None → next.muted ≡ x.before.muted
    → x.exchange.1 ≡ Reply (record { items = [] }) → HonestAfter x next b m n
mute_nobody_after x next b m n u so tn sound asks absent same event =
    quiet x next b m n 0
    (seen_as p (line_state p x.before.muted b m n) (line_state p next.muted 0 0 0) _ (Muted u) _ Silent asks.asked
    (ap (λ e. heard_in x.exchange.0.items (bytes_heard e)) event)
    (mute_absent p (line_state p x.before.muted b m n) (line_state p next.muted 0 0 0) u Silent
    (present_is x.before.devices x.before.exchanges u sound.scene.uids.ascending ∙ ap is_some absent) refl
    (keeps p next.muted x.before.muted same) (counts p next.muted 0 0 0 (omega arith) (omega arith))))
  where
    p : List ℕ
    p = present_in x

-- a mute's acknowledgement
acknowledged : (d : SceneDevice) (u so tn : ℕ) → d.device.uid ≡ u → u < 2 ^ 48 → so < 2 ^ 48 → tn < 2 ^ 8
    → MuteAcked u so tn (packet (fields_of (mute_response d.device so tn)))
acknowledged d u so tn same in_range from_range tn_range = record {
  response = mute_response d.device so tn;
  reads = (
    record {
      dest = from_range;
      source = subst (λ v. v < 2 ^ 48) (sym same) in_range;
      tn = tn_range;
      port_or_type = omega arith;
      count = omega arith;
      sub_device = omega arith;
      class = omega arith;
      pid = omega arith;
      param = few d.device.binding;
    },
    [],
    sym (append-nil (packet (fields_of (mute_response d.device so tn)))),
  );
  class = refl;
  pid = refl;
  ack = refl;
  source = same;
  dest = refl;
  tn = refl;
  size = sizes d.device.binding;
}
  where
    few : (o : Option ℕ) → length (two_bytes d.device.control ++ binding_bytes o) ≤ 231
    few None = omega arith
    few (Some v) = omega arith

    sizes : (o : Option ℕ) → (length (two_bytes d.device.control ++ binding_bytes o) ≡ 2)
        ⊎ (length (two_bytes d.device.control ++ binding_bytes o) ≡ 8)
    sizes None = inl refl
    sizes (Some v) = inr refl

hears_ack : (d : SceneDevice) (u so tn : ℕ) → MuteAcked u so tn (packet (fields_of (mute_response d.device so tn)))
    → is_acked (heard_bytes so tn (Muted u) (packet (fields_of (mute_response d.device so tn)))) ≡ true
hears_ack d u so tn acked = ap (λ o. is_acked (acked_or_noise o)) (ack_read-of u so tn _ acked)

other_way : (u v : ℕ) → (u == v) ≡ false → (v == u) ≡ false
other_way u v isnt =
    elim (cases_Bool (v == u))
    [ inl is ↦ absurd (true≢false (sym (eq-eqb u v (sym (eqb-true v u is))) ∙ isnt)) | inr differs ↦ differs ]

-- a mute of a present device
mute_device_after : (x : Step) (next : SimState) (b m n u so tn : ℕ) (d : SceneDevice) (reply : List ℕ)
    → IsSoundState x.before → Asks x (Mute u) so tn → command_read x.exchange.0.items ≡ Some (Mute u, so, tn)
    → device_at x.before.exchanges x.before.devices u ≡ Some d
    → reply ≡ packet (fields_of (mute_response d.device so tn)) → next.muted ≡ with_uid d.device.uid x.before.muted
    → (lost : Bool) → is_among x.before.exchanges x.before.losses ≡ lost
    → x.exchange.1 ≡ Reply (record { items = cond lost [] reply }) → (LosesMute x → m + 1 ≤ 4)
    → HonestAfter x next b m n
mute_device_after x next b m n u so tn d reply sound asks is found says muted = by_loss
  where
    p : List ℕ
    p = present_in x

    at : IsDeviceAt x.before.exchanges u x.before.devices d
    at = device_at_is x.before.exchanges u x.before.devices d sound.scene found

    there : has p u ≡ true
    there = present_is x.before.devices x.before.exchanges u sound.scene.uids.ascending ∙ ap is_some found

    is_muted : muted_among p next.muted u ≡ true
    is_muted = ap (λ us. muted_among p us u) (muted ∙ ap (λ v. with_uid v x.before.muted) at.uid)
        ∙ ap (λ t. t && has (with_uid u x.before.muted) u) there ∙ has-with_uid u x.before.muted u
        ∙ ap (λ t. t || has x.before.muted u) (eq-eqb u u refl)

    others : (v : ℕ) → (u == v) ≡ false → muted_among p next.muted v ≡ muted_among p x.before.muted v
    others v differs =
        ap (λ us. muted_among p us v) (muted ∙ ap (λ w. with_uid w x.before.muted) at.uid)
        ∙ ap (λ t. has p v && t)
        (has-with_uid u x.before.muted v ∙ ap (λ t. t || has x.before.muted v) (other_way u v differs))

    by_loss : (lost : Bool) → is_among x.before.exchanges x.before.losses ≡ lost
        → x.exchange.1 ≡ Reply (record { items = cond lost [] reply }) → (LosesMute x → m + 1 ≤ 4)
        → HonestAfter x next b m n
    by_loss true is_lost event few =
        let loses : LosesMute x = record {
          u = u;
          source = so;
          tn = tn;
          asks = is;
          due = λ e. absurd (some_is_none (sym found ∙ e));
          lost = is_lost;
        } in
        record {
          lost_branches = 0;
          lost_mutes = m + 1;
          unmutes = 0;
          step = seen_as p (line_state p x.before.muted b m n) (line_state p next.muted 0 (m + 1) 0) _ (Muted u) _
              Silent asks.asked (ap (λ e. heard_in x.exchange.0.items (bytes_heard e)) event)
              (mute_present p (line_state p x.before.muted b m n) (line_state p next.muted 0 (m + 1) 0) u Silent there
              others (inr (refl, inl is_muted, counts p next.muted 0 (m + 1) 0 (omega arith) (few loses))));
          branches = inl refl;
          mutes = inr (refl, loses);
          few_branches = omega arith;
          few_mutes = few loses;
        }
      where
        some_is_none : Some d ≡ None → ⊥
        some_is_none e = cc
    by_loss false kept event few =
        quiet x next b m n 0 (seen_as p (line_state p x.before.muted b m n) (line_state p next.muted 0 0 0) _ (Muted u)
        _ (heard_bytes so tn (Muted u) (packet (fields_of (mute_response d.device so tn)))) asks.asked
        (heard_as x (packet (fields_of (mute_response d.device so tn)))
        (event ∙ ap (λ l. Reply (record { items = l })) says) (Muted u) so tn asks.asked asks.source asks.number)
        (mute_present p (line_state p x.before.muted b m n) (line_state p next.muted 0 0 0) u _ there others
        (inl (
          hears_ack d u so tn (acknowledged d u so tn at.uid at.own.in_range asks.writes.frame.fits.source
              asks.writes.frame.fits.tn),
          is_muted,
          counts p next.muted 0 0 0 (omega arith) (omega arith),
        ))))

-- what comes after a branch
heard_text : (so tn lo hi : ℕ) (b : List ℕ) (u : ℕ) → text_read b ≡ Some u → 0 < length b
    → heard_bytes so tn (Branched lo hi) b ≡ One u
heard_text so tn lo hi [] u reads some = absurd (omega arith)
heard_text so tn lo hi (y ∷ ys) u reads some = ap one_or_noise reads

not_silent : (so tn lo hi : ℕ) (b : List ℕ) → 0 < length b → is_silent (heard_bytes so tn (Branched lo hi) b) ≡ false
not_silent so tn lo hi [] some = absurd (omega arith)
not_silent so tn lo hi (y ∷ ys) some = by_option (text_read (y ∷ ys))
  where
    by_option : (o : Option ℕ) → is_silent (one_or_noise o) ≡ false
    by_option None = refl
    by_option (Some u) = refl

-- what holds of the devices holds of some of them
all-some : (P : SceneDevice → Type 0) (q : SceneDevice → Bool) (ds : List SceneDevice) → AllByRecursion P ds
    → AllByRecursion P (filter q ds)
all-some P q [] all = tt
all-some P q (d ∷ ds) all = by_test (q d) (all-some P q ds all.1)
  where
    by_test : (t : Bool) → AllByRecursion P (filter q ds) → AllByRecursion P (cond t (d ∷ filter q ds) (filter q ds))
    by_test true rest = (all.0, rest)
    by_test false rest = rest

own_uids : (ds : List SceneDevice) → AllByRecursion IsDevice (uids_of_scene ds)
    → AllByRecursion (λ d. IsDevice d.device.uid) ds
own_uids [] all = tt
own_uids (d ∷ ds) all = (all.0, own_uids ds all.1)

-- a branch
branch_after : (x : Step) (next : SimState) (b m n so tn : ℕ) (range : Span) (reply : List ℕ) → IsSoundState x.before
    → Asks x (Branch range) so tn → command_read x.exchange.0.items ≡ Some (Branch range, so, tn)
    → (lost : Bool) → is_among x.before.exchanges x.before.losses ≡ lost
    → x.exchange.1 ≡ Reply (record { items = cond lost [] reply }) → (LosesBranch x → b + 1 ≤ 4)
    → (ds : List SceneDevice) → answering x.before.exchanges x.before range ≡ ds
    → AnswersBranch (counted x.before) ds reply next → HonestAfter x next b m n
branch_after x next b m n so tn range reply sound asks is = by_devices
  where
    p : List ℕ
    p = present_in x

    old : LineState
    old = line_state p x.before.muted b m n

    due : (ds : List SceneDevice) → answering x.before.exchanges x.before range ≡ ds
        → due_in p old.muted range.lo range.hi ≡ uids_of_scene ds
    due ds e = due_is x.before.exchanges x.before range ∙ ap uids_of_scene e

    -- the reply isn't lost, or nobody is due
    heard_so : (h : Heard) (ds : List SceneDevice) → answering x.before.exchanges x.before range ≡ ds
        → (seen_in x).heard ≡ h → MayReply (uids_of_scene ds) h → lost_after (uids_of_scene ds) h b ≡ 0
        → next.muted ≡ x.before.muted → HonestAfter x next b m n
    heard_so h ds e q may zero_lost same =
        quiet x next b m n 0
        (seen_as p old (line_state p next.muted 0 0 0) _ (Branched range.lo range.hi) _ h asks.asked q
        (branch_step p old (line_state p next.muted 0 0 0) range.lo range.hi h (uids_of_scene ds) (due ds e) may
        (keeps p next.muted x.before.muted same)
        (subst (λ k. LineCounts (line_state p next.muted 0 0 0) k 0 0) (sym zero_lost)
        (counts p next.muted 0 0 0 (omega arith) (omega arith)))))

    loses : (d : SceneDevice) (ds : List SceneDevice) → answering x.before.exchanges x.before range ≡ d ∷ ds
        → is_among x.before.exchanges x.before.losses ≡ true → LosesBranch x
    loses d ds e is_lost = record {
      range = range;
      source = so;
      tn = tn;
      asks = is;
      due = λ g. some_is_nil (sym e ∙ g);
      lost = is_lost;
    }
      where
        some_is_nil : d ∷ ds ≡ [] → ⊥
        some_is_nil g = cc

    lost_so : (d : SceneDevice) (ds : List SceneDevice) → answering x.before.exchanges x.before range ≡ d ∷ ds
        → (seen_in x).heard ≡ Silent → MayReply (uids_of_scene (d ∷ ds)) Silent
        → is_among x.before.exchanges x.before.losses ≡ true
        → (LosesBranch x → b + 1 ≤ 4) → next.muted ≡ x.before.muted → HonestAfter x next b m n
    lost_so d ds e q may is_lost few same = record {
      lost_branches = b + 1;
      lost_mutes = 0;
      unmutes = 0;
      step = seen_as p old (line_state p next.muted (b + 1) 0 0) _ (Branched range.lo range.hi) _ Silent asks.asked q
          (branch_step p old (line_state p next.muted (b + 1) 0 0) range.lo range.hi Silent (uids_of_scene (d ∷ ds))
          (due (d ∷ ds) e) may (keeps p next.muted x.before.muted same)
          (counts p next.muted (b + 1) 0 0 (few (loses d ds e is_lost)) (omega arith)));
      branches = inr (refl, loses d ds e is_lost);
      mutes = inl refl;
      few_branches = few (loses d ds e is_lost);
      few_mutes = omega arith;
    }

    silence : x.exchange.1 ≡ Reply (record { items = [] }) → (seen_in x).heard ≡ Silent
    silence event = ap (λ e. heard_in x.exchange.0.items (bytes_heard e)) event

    by_devices : (lost : Bool) → is_among x.before.exchanges x.before.losses ≡ lost
        → x.exchange.1 ≡ Reply (record { items = cond lost [] reply }) → (LosesBranch x → b + 1 ≤ 4)
        → (ds : List SceneDevice) → answering x.before.exchanges x.before range ≡ ds
        → AnswersBranch (counted x.before) ds reply next → HonestAfter x next b m n
    by_devices true is_lost event few [] e h =
        heard_so Silent [] e (silence event) refl refl (ap (λ (t : SimState). t.muted) h.same)
    by_devices false kept event few [] e h =
        heard_so Silent [] e (silence (event ∙ ap (λ l. Reply (record { items = l })) h.silent)) refl refl
        (ap (λ (t : SimState). t.muted) h.same)
    by_devices true is_lost event few (d ∷ []) e h =
        lost_so d [] e (silence event) (inr refl) is_lost few (ap (λ (t : SimState). t.muted) h.1)
    by_devices false kept event few (d ∷ []) e h =
        let own : IsDevice d.device.uid = (subst (AllByRecursion (λ f. IsDevice f.device.uid)) e
        (all-some (λ f. IsDevice f.device.uid) _ x.before.devices
        (own_uids x.before.devices sound.scene.uids.devices))).0 in
        let of_scene =
        (subst (AllByRecursion IsSceneDevice) e (all-some IsSceneDevice _ x.before.devices sound.scene.each)).0 in
        let reads = text_read-of (branch_text d.device.uid d.preamble) d.device.uid
        (branch_text_reads d.device.uid d.preamble own.in_range of_scene.preamble) in
        heard_so (One d.device.uid) (d ∷ []) e
        (heard_as x (branch_text d.device.uid d.preamble) (event ∙ ap (λ l. Reply (record { items = l })) h.0)
        (Branched range.lo range.hi) so tn asks.asked asks.source asks.number
        ∙ heard_text so tn range.lo range.hi (branch_text d.device.uid d.preamble) d.device.uid reads
        (reply_some d.device.uid d.preamble))
        (inl refl) refl (ap (λ (t : SimState). t.muted) h.1)
    by_devices true is_lost event few (d ∷ f ∷ ds) e h =
        lost_so d (f ∷ ds) e (silence event) tt is_lost few (ap (λ (t : SimState). t.muted) h.next)
    by_devices false kept event few (d ∷ f ∷ ds) e h =
        heard_so (heard_bytes so tn (Branched range.lo range.hi) reply) (d ∷ f ∷ ds) e
        (heard_as x reply event (Branched range.lo range.hi) so tn asks.asked asks.source asks.number) tt
        (ap (λ t. cond t (b + 1) 0) (not_silent so tn range.lo range.hi reply h.some))
        (ap (λ (t : SimState). t.muted) h.next)

-- every step at which the line doesn't fail
pub honest_after : (x : Step) (next : SimState) (b m n : ℕ) → IsSoundState x.before → Exchanges x.before x.exchange next
    → (LosesBranch x → b + 1 ≤ 4) → (LosesMute x → m + 1 ≤ 4) → HonestAfter x next b m n
honest_after x next b m n sound h few_b few_m = by_command (command_read x.exchange.0.items) refl h.acts
  where
    silent : h.reply ≡ [] → x.exchange.1 ≡ Reply (record { items = [] })
    silent nothing =
        h.heard ∙ ap (λ l. Reply (record { items = l }))
        (ap (cond (is_among x.before.exchanges x.before.losses) []) nothing
        ∙ either (is_among x.before.exchanges x.before.losses))
      where
        either : (t : Bool) → cond {A = List ℕ} t [] [] ≡ []
        either true = refl
        either false = refl

    of_mute : (u so tn : ℕ) → command_read x.exchange.0.items ≡ Some (Mute u, so, tn) → (o : Option SceneDevice)
        → device_at x.before.exchanges x.before.devices u ≡ o
        → MatchOption o (KeepsSilent (counted x.before) h.reply next)
        (λ d. Mutes (counted x.before) d so tn h.reply next) → HonestAfter x next b m n
    of_mute u so tn is None found g =
        mute_nobody_after x next b m n u so tn sound (asks_command x (Mute u) so tn h.frame is) found
        (ap (λ (t : SimState). t.muted) g.same) (silent g.silent)
    of_mute u so tn is (Some d) found g =
        mute_device_after x next b m n u so tn d h.reply sound (asks_command x (Mute u) so tn h.frame is) is found
        g.bytes (ap (λ (t : SimState). t.muted) g.mutes) (is_among x.before.exchanges x.before.losses) refl h.heard
        few_m

    of_command : (c : Command) (so tn : ℕ) → command_read x.exchange.0.items ≡ Some (c, so, tn)
        → ActsOn x.before.exchanges (counted x.before) c so tn h.reply next → HonestAfter x next b m n
    of_command Unmute so tn is g =
        unmute_after x next b m n so tn (asks_command x Unmute so tn h.frame is)
        (ap (λ (t : SimState). t.muted) g.unmuted)
    of_command (Branch range) so tn is g =
        branch_after x next b m n so tn range h.reply sound (asks_command x (Branch range) so tn h.frame is) is
        (is_among x.before.exchanges x.before.losses) refl h.heard few_b
        (answering x.before.exchanges x.before range) refl g
    of_command (Mute u) so tn is g = of_mute u so tn is (device_at x.before.exchanges x.before.devices u) refl g
    of_command (Requested r) so tn is g =
        let asks = asks_command x (Requested r) so tn h.frame is in
        let asked = device_at x.before.exchanges x.before.devices r.target in
        let same = (after_request x.before next r so tn h.reply asked g).muted in
        quiet x next b m n 0
        (seen_as (present_in x) (line_state (present_in x) x.before.muted b m n)
        (line_state (present_in x) next.muted 0 0 0) _ Other _ _ asks.asked refl (
          keeps (present_in x) next.muted x.before.muted same,
          counts (present_in x) next.muted 0 0 0 (omega arith) (omega arith),
        ))

    by_command : (o : Option (Command × ℕ × ℕ)) → command_read x.exchange.0.items ≡ o
        → Acts x.before.exchanges (counted x.before) o h.reply next → HonestAfter x next b m n
    by_command None is g =
        nobody_steps x next b m n sound h.frame is (ap (λ (t : SimState). t.muted) g.same) (silent g.silent)
    by_command (Some sent) is g = of_command sent.0 sent.1 sent.2 is g
