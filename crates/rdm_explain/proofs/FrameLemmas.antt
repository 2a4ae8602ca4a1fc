-- What frames ask, by their bytes.
use Rattle.std.proofs.Common.{◌≡◌, ℕ, ◌++◌, ◌<◌, ◌≤◌, Bool, false, cond, List, [], ◌∷◌, Option, Some, None, refl}
use Rattle.std.proofs.Common.{sym, ap, ◌∙◌, length, arith, bytes_eq}
use Rattle.rdm_wire.specs.BranchText.{BranchText}
use Rattle.rdm_wire.specs.Reading.{text_read}
use Rattle.rdm_wire.specs.Bytes.{uid_bytes}
use Rattle.rdm_wire.specs.Packet.{fields_at, packet}
use Rattle.rdm_explain.specs.body.FrameTests.{is_branch_frame, heard_event}
use Rattle.rdm_wire.specs.CommandFrames.{all_devices, discovery_fields, branch_frame, mute_frame, unmute_frame}
use Rattle.rdm_wire.specs.Frames.{asked_in, heard_in, seen_exchange, heard_bytes, lower_bound, upper_bound}
use Rattle.rdm_wire.specs.Frames.{one_or_noise}
use Rattle.rdm_wire.specs.Honest.{Asked, Heard, Seen}
use Rattle.rdm_wire.specs.Honest.Asked.{Unmute, Branch, Mute, Other}
use Rattle.rdm_wire.specs.Honest.Heard.{Noise}
use Rattle.rdm_wire.proofs.Text.{of-text_read}
use Rattle.rdm_wire.proofs.CommandReads.{other_bytes}

-- the three tests, one after another
pub asks_by : (b : List ℕ) (u r m : Bool) → bytes_eq b (unmute_frame (fields_at b).source (fields_at b).tn) ≡ u
    → bytes_eq b (branch_frame (lower_bound (fields_at b)) (upper_bound (fields_at b)) (fields_at b).source
    (fields_at b).tn) ≡ r
    → bytes_eq b (mute_frame (fields_at b).dest (fields_at b).source (fields_at b).tn) ≡ m
    → asked_in b ≡ cond u Unmute (cond r (Branch (lower_bound (fields_at b)) (upper_bound (fields_at b)))
    (cond m (Mute (fields_at b).dest) Other))
asks_by b u r m p q t = rw (p, q, t) refl

-- no packet is so short
pub short_asks_nothing : (b : List ℕ) → length b < 26 → asked_in b ≡ Other
short_asks_nothing b short =
    let f = fields_at b in
    asks_by b false false false
    (other_bytes b (unmute_frame f.source f.tn) (λ e. few (ap length e) (omega arith)))
    (other_bytes b (branch_frame (lower_bound f) (upper_bound f) f.source f.tn) (λ e. few (ap length e) (omega arith)))
    (other_bytes b (mute_frame f.dest f.source f.tn) (λ e. few (ap length e) (omega arith)))
  where
    few : {n : ℕ} → length b ≡ n → 26 ≤ n → ⊥
    few same many = omega (arith, same, many, short)

-- bytes that are the text of no UID
pub no_text : (b : List ℕ) → ((u : ℕ) → BranchText b u → ⊥) → Noise ≡ one_or_noise (text_read b)
no_text b never = by_option (text_read b) refl
  where
    by_option : (o : Option ℕ) → text_read b ≡ o → Noise ≡ one_or_noise o
    by_option None is = refl
    by_option (Some u) is = absurd (never u (of-text_read b u is))

-- whether a frame is the branch of the bounds that it has
pub branch_test : (b branch param : List ℕ) (lo hi s tn : ℕ) (t : Bool) → lo ≡ lower_bound (fields_at b)
    → hi ≡ upper_bound (fields_at b) → param ≡ uid_bytes lo ++ uid_bytes hi
    → branch ≡ packet (discovery_fields all_devices 1 param s tn) → bytes_eq b branch ≡ t → is_branch_frame b s tn ≡ t
branch_test b branch param lo hi s tn t lower upper data_is is test =
    ap (λ p. bytes_eq b (packet (discovery_fields all_devices 1 p s tn))) same ∙ ap (bytes_eq b) (sym is) ∙ test
  where
    same : uid_bytes (lower_bound (fields_at b)) ++ uid_bytes (upper_bound (fields_at b)) ≡ param
    same = ap (λ u. uid_bytes u ++ uid_bytes (upper_bound (fields_at b))) (sym lower)
        ∙ ap (λ u. uid_bytes lo ++ uid_bytes u) (sym upper)
        ∙ sym data_is

-- after a frame that asks nothing of the devices, source and number don't matter
pub other_heard : (s t n m : ℕ) (a : Asked) (bytes : List ℕ) → a ≡ Other
    → heard_bytes s n a bytes ≡ heard_bytes t m a bytes
other_heard s t n m a [] is = refl
other_heard s t n m a (b ∷ bs) is = rw is refl

-- a frame and its answer, heard alike
pub seen_alike : (frame : List ℕ) (s tn : ℕ) (a : Asked) (h : Heard) (o : Option (List ℕ)) → a ≡ asked_in frame
    → ((bytes : List ℕ) → heard_bytes s tn (asked_in frame) bytes ≡ heard_in frame (Some bytes))
    → h ≡ heard_event s tn a o → ◌≡◌ {A = Seen} (record { asked = a; heard = h }) (seen_exchange frame o)
seen_alike frame s tn a h o asks same is = both (asked_in frame) (heard_in frame o) asks (is ∙ heard o)
  where
    heard : (o : Option (List ℕ)) → heard_event s tn a o ≡ heard_in frame o
    heard None = refl
    heard (Some bytes) = ap (λ b. heard_bytes s tn b bytes) asks ∙ same bytes

    both : (b : Asked) (k : Heard) → a ≡ b → h ≡ k
        → ◌≡◌ {A = Seen} (record { asked = a; heard = h }) (record { asked = b; heard = k })
    both b k p q = rw (p, q) refl
