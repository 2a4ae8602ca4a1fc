-- The clients' calls in a session's log.
use Rattle.std.specs.Prelude.{◌≡◌, ◌==◌, ℕ, ◌+◌, List, [], ◌∷◌, Option, Some, None, if◌then◌else◌, map, filter_map}
use Rattle.rdm_log.specs.declared.entry.Entry.{Entry}
use Rattle.rdm_log.specs.declared.entry.Entry.TheVariants.{Accept, Ask}
use Rattle.rdm_log.specs.log.Entries.{join_of}
use Rattle.rdm_files.specs.declared.session.call.ClientCall.{ClientCall}
use Rattle.rdm_files.specs.declared.session.call.ClientCall.TheVariants.{Submit, Discover}
use Rattle.rdm_files.specs.declared.session.client.ClientFile.{ClientFile}

-- the call of this client that an entry accepts; None if it accepts none
abbrev pub call_logged : ℕ → Entry → Option ClientCall
call_logged c (Accept client number request) = if c == client.0 then Some (Submit request) else None
call_logged c (Ask client number kind) = if c == client.0 then Some (Discover kind) else None
call_logged c _ = None

-- all calls of a client that were accepted, in order
abbrev pub calls_logged : ℕ → List Entry → List ClientCall
calls_logged c h = filter_map (call_logged c) h

-- the calls of each of these clients, which are numbered from c on, are its calls in the log
abbrev pub AllCalled : List Entry → ℕ → List ClientFile → Type 0
AllCalled h c [] = Unit {0}
AllCalled h c (client ∷ later) = (calls_logged c h ≡ client.calls.items) × AllCalled h (c + 1) later

-- the log has these clients, with their queue depths, and no others, and for each exactly its calls, in order
pub record HasCalls (h : List Entry) (clients : List ClientFile) : Type 0 where
  pub joined : filter_map join_of h ≡ map (λ (c : ClientFile). c.places) clients
  pub called : AllCalled h 0 clients
