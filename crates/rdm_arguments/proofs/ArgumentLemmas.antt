-- What arguments ask for, computed.
use Rattle.std.proofs.Common.{◌≡◌, ◌==◌, true, false, refl, inl, inr, List, [], ◌∷◌, Some, codes, sym, ap, subst, arith}
use Rattle.std.specs.Prelude.{◌⊎◌, ◌≢◌, None}
use Rattle.std.proofs.lemmas.Bool.{not-true}
use Rattle.std.specs.Borrow.{Bor}
use Rattle.clap.specs.Words.{App, HasKind, HasMatchesOf, IsAmong, Text, fault_of, is_simple, is_simple_and_free}
use Rattle.clap.specs.Words.{kind_of, subcommand_of, subcommand_rows_of}
use Rattle.clap.specs.declared.error.Error.{Error}
use Rattle.clap.specs.declared.error.kind.ErrorKind.TheVariants.{OutOfMemory}
use Rattle.clap.specs.declared.parser.matches.ArgMatches.{ArgMatches}
use Rattle.clap.proofs.OnLiterals.{clap_on_literals}
use Rattle.rdm_arguments.specs.Arguments.{Asks, AsksNothing, IsGiven, commands, is_plain}
use Rattle.rdm_arguments.specs.declared.job.ExplainJob.{ExplainJob}
use Rattle.rdm_arguments.specs.declared.job.Job.TheVariants.{Decode, Encode, Explain}
use Rattle.rdm_arguments.specs.declared.job.WordsFault.{WordsFault}
use Rattle.rdm_arguments.specs.declared.job.WordsFault.TheVariants.{Words}

-- a command's name and a plain argument are taken
no_fault : (command text : Text)
    → (command ≡ codes "decode") ⊎ ((command ≡ codes "encode") ⊎ (command ≡ codes "explain")) → is_plain text ≡ true
    → fault_of commands (command ∷ text ∷ []) ≡ []
unfolding clap_on_literals
no_fault command [] (inl is) h = rw is refl
no_fault command [] (inr (inl is)) h = rw is refl
no_fault command [] (inr (inr is)) h = rw is refl
no_fault command (x ∷ xs) (inl is) h = rw is (simp (not-true (x == 45) h) refl)
no_fault command (x ∷ xs) (inr (inl is)) h = rw is (simp (not-true (x == 45) h) refl)
no_fault command (x ∷ xs) (inr (inr is)) h = rw is (simp (not-true (x == 45) h) refl)

-- it is the command's argument
digits_given : (digits : Bor Text) (text : Text) → digits.now ≡ text → is_plain text ≡ true
    → IsGiven (subcommand_of commands (codes "decode" ∷ text ∷ [])) (Decode digits)
unfolding clap_on_literals
digits_given digits [] is h = (refl, ap Some (sym is))
digits_given digits (x ∷ xs) is h = simp (not-true (x == 45) h) (refl, ap Some (sym is))

uid_given : (uid : Bor Text) (text : Text) → uid.now ≡ text → is_plain text ≡ true
    → IsGiven (subcommand_of commands (codes "encode" ∷ text ∷ [])) (Encode uid)
unfolding clap_on_literals
uid_given uid [] is h = (refl, ap Some (sym is))
uid_given uid (x ∷ xs) is h = simp (not-true (x == 45) h) (refl, ap Some (sym is))

-- without options it is all that is given
log_given : (job : ExplainJob) (text : Text) → job.log.now ≡ text → job.present.items ≡ [] → job.rig ≡ None
    → job.json ≡ false → is_plain text ≡ true
    → IsGiven (subcommand_of commands (codes "explain" ∷ text ∷ [])) (Explain job)
unfolding clap_on_literals
log_given job [] is none no_rig no_json h = (
  refl,
  record {
    log = ap Some (sym is);
    present = rw none refl;
    few = rw none (omega arith);
    rig = rw no_rig refl;
    json = no_json;
  },
)
log_given job (x ∷ xs) is none no_rig no_json h = simp (not-true (x == 45) h) (
  refl,
  record {
    log = ap Some (sym is);
    present = rw none refl;
    few = rw none (omega arith);
    rig = rw no_rig refl;
    json = no_json;
  },
)

pub asks_decode : (digits : Bor Text) → is_plain digits.now ≡ true
    → Asks (codes "decode" ∷ digits.now ∷ []) (Decode digits)
asks_decode digits h = (no_fault (codes "decode") digits.now (inl refl) h, digits_given digits digits.now refl h)

pub asks_encode : (uid : Bor Text) → is_plain uid.now ≡ true → Asks (codes "encode" ∷ uid.now ∷ []) (Encode uid)
asks_encode uid h = (no_fault (codes "encode") uid.now (inr (inl refl)) h, uid_given uid uid.now refl h)

pub asks_explain : (job : ExplainJob) → is_plain job.log.now ≡ true → job.present.items ≡ [] → job.rig ≡ None
    → job.json ≡ false → Asks (codes "explain" ∷ job.log.now ∷ []) (Explain job)
asks_explain job h none no_rig no_json =
    (no_fault (codes "explain") job.log.now (inr (inr refl)) h, log_given job job.log.now refl none no_rig no_json h)

pub asks_after_hyphens : (digits : Bor Text) → Asks (codes "decode" ∷ codes "--" ∷ digits.now ∷ []) (Decode digits)
unfolding clap_on_literals
asks_after_hyphens digits = (refl, (refl, refl))

-- `clap` reads these commands as its definitions say
simple : is_simple commands ≡ true
simple = refl

free : is_simple_and_free commands ≡ true
free = refl

-- what is found is what the arguments give
pub found_is : (app : App) (words : List Text) (m : ArgMatches) → app ≡ commands → HasMatchesOf app words m
    → subcommand_rows_of m ≡ subcommand_of commands words
found_is app words m is has = (subst (λ a. HasMatchesOf a words m) is has simple).1

-- arguments that are refused, though there is memory, ask for nothing
pub refused_ask : (app : App) (words : List Text) (e : Error) (fault : WordsFault) → app ≡ commands
    → (is_simple_and_free app ≡ true → HasKind (fault_of app words) e)
    → (fault ≡ Words → kind_of e ≢ OutOfMemory) → fault ≡ Words → AsksNothing words
refused_ask app words e fault is kinds other words_fault job asked =
    elim (subst (λ a. is_simple_and_free a ≡ true → HasKind (fault_of a words) e) is kinds free) [
      | inl memory ↦ other words_fault memory
      | inr among ↦ subst (IsAmong (kind_of e)) asked.0 among
    ]

-- arguments that aren't taken ask for nothing
refused : (words : List Text) → (fault_of commands words ≡ [] → ⊥) → AsksNothing words
refused words fault job asked = fault asked.0

pub nothing_asked : AsksNothing []
unfolding clap_on_literals
nothing_asked = refused [] (λ none. cc)

pub no_argument : AsksNothing (codes "decode" ∷ [])
unfolding clap_on_literals
no_argument = refused (codes "decode" ∷ []) (λ none. cc)

pub help_refused : AsksNothing (codes "--help" ∷ [])
unfolding clap_on_literals
help_refused = refused (codes "--help" ∷ []) (λ none. cc)

pub help_of_command_refused : AsksNothing (codes "decode" ∷ codes "--help" ∷ [])
unfolding clap_on_literals
help_of_command_refused = refused (codes "decode" ∷ codes "--help" ∷ []) (λ none. cc)
