-- What is said about arguments that fit no command.
use Rattle.std.specs.Prelude.{◌≡◌, ◌≢◌, ◌⊎◌, ℕ, List, [], ◌∷◌, Some, None, false, ⊤, codes, Contains}
use Rattle.std.specs.Borrow.{Bor}
use Rattle.clap.specs.Words.{Text}
use Rattle.rdm_arguments.specs.Arguments.{IsBudget, is_plain, port_named}
use Rattle.rdm_arguments.specs.declared.complaint.Complaint.{Complaint}
use Rattle.rdm_arguments.specs.declared.complaint.Complaint.TheVariants.{Help, Version, NoCommand, UnknownCommand}
use Rattle.rdm_arguments.specs.declared.complaint.Complaint.TheVariants.{UnknownOption, Repeated, HasValue, UnknownPort}
use Rattle.rdm_arguments.specs.declared.complaint.Complaint.TheVariants.{NoArgument, Unexpected, Misfit, NoValue}
use Rattle.rdm_arguments.specs.declared.complaint.Complaint.TheVariants.{NoOption, NeedsLine, TooOften, UnknownBudget}

-- the text isn't the name of a command
pub record IsNoCommand (text : Text) : Type 0 where
  pub decode : text ≢ codes "decode"
  pub encode : text ≢ codes "encode"
  pub discover : text ≢ codes "discover"
  pub run : text ≢ codes "run"
  pub explain : text ≢ codes "explain"

-- one of the arguments is this text
abbrev pub HasWord : List (Bor Text) → Text → Type 0
HasWord words text = (word : Bor Text) × Contains words word × (word.now ≡ text)

-- the first argument is this text
abbrev pub BeginsWith : List (Bor Text) → Text → Type 0
BeginsWith [] text = ⊥
BeginsWith (word ∷ words) text = word.now ≡ text

-- what is said about the arguments after a command's name is true of them; an argument that is named is one of them
abbrev pub IsTrueAfter : Text → List (Bor Text) → Complaint → Type 0
IsTrueAfter name words (UnknownOption command option) =
    (command.now ≡ name) × Contains words option × (is_plain option.now ≡ false)
IsTrueAfter name words (Repeated option) = ⊤
IsTrueAfter name words (HasValue option) = ⊤
IsTrueAfter name words (UnknownPort port) = port_named port.now ≡ None
IsTrueAfter name words (NoArgument command argument) = command.now ≡ name
IsTrueAfter name words (Unexpected word) = Contains words word
IsTrueAfter name words Misfit = ⊤
IsTrueAfter name words (NoValue option) = ⊤
IsTrueAfter name words (NoOption command option) = command.now ≡ name
IsTrueAfter name words (NeedsLine option) = ⊤
IsTrueAfter name words (TooOften option) = ⊤
IsTrueAfter name words (UnknownBudget text) = (budget : ℕ) → IsBudget (Some text.now) budget → ⊥
IsTrueAfter name words _ = ⊥

-- the same for all arguments; the first one is a command's name
abbrev pub IsTrueOfCommand : List (Bor Text) → Complaint → Type 0
IsTrueOfCommand [] complaint = ⊥
IsTrueOfCommand (word ∷ words) complaint = ¬ IsNoCommand word.now × IsTrueAfter word.now words complaint

-- what is said about arguments that fit no command is true of them
abbrev pub IsTrueOf : List (Bor Text) → Complaint → Type 0
IsTrueOf words Help =
    BeginsWith words (codes "help") ⊎ HasWord words (codes "-h") ⊎ HasWord words (codes "--help")
IsTrueOf words Version = HasWord words (codes "-V") ⊎ HasWord words (codes "--version")
IsTrueOf words NoCommand = words ≡ []
IsTrueOf words (UnknownCommand word) = BeginsWith words word.now × IsNoCommand word.now
IsTrueOf words complaint = IsTrueOfCommand words complaint
