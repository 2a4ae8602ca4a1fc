-- An agent keeps its search, whatever it hears.
use Rattle.rdm_agent.proofs.Common.{◌≡◌, ℕ, ◌+◌, refl, nat_lt, cond_both, length, has, ◌==◌}
use Rattle.rdm_agent.proofs.Common.{Device, device_from, to_found, MOST_DEVICES, Heard, Acked, Failed, Silent, One}
use Rattle.rdm_agent.proofs.Common.{Noise, Phase, AgentState, fed, heard_by_phase, found_uids, Unmuting, MutingKnown}
use Rattle.rdm_agent.proofs.Common.{Searching, MutingRead, Sweeping, MutingSwept, Checking, MutingStray, Ended}
use Rattle.rdm_agent.proofs.Common.{Sweep, sweep_silent, sweep_apart, sweep_spelt, swept_lost, swept_heard}
use Rattle.rdm_agent.proofs.Common.{counted, counted_silent, counted_spelt, is_wanted, is_stray, is_one, is_whole}
use Rattle.rdm_agent.proofs.Common.{TRIES, BAD_ANSWERS, bads_aside, is_broadcast, sweep_suspecting}
use Rattle.rdm_agent.specs.Machine.{fifth_silence, put_apart, asks_on}
use Rattle.rdm_agent.specs.Apart.{has_room}
use Rattle.rdm_agent.specs.declared.belief.Part.{Part}
use Rattle.rdm_agent.specs.declared.belief.Part.TheVariants as parts

-- the agent that it becomes searches like it
abbrev Keeps : AgentState → AgentState → Type 0
Keeps a b = b.search ≡ a.search

found-keeps : (a : AgentState) (d : Device) (phase : Phase) → Keeps a (to_found a d phase)
found-keeps a d phase = cond_both (has (found_uids a) d.uid) _ _ (Keeps a) (λ old. refl)
    (λ new. cond_both (nat_lt (length (found_uids a)) MOST_DEVICES) _ _ (Keeps a) (λ room. refl) (λ full. refl))

fifth-keeps : (part : Part) (a : AgentState) (sweep : Sweep) → Keeps a (fifth_silence part a sweep)
fifth-keeps parts.Apart a sweep = refl
fifth-keeps parts.Fresh a sweep = cond_both (is_whole sweep.question.range) _ _ (Keeps a) (λ all. refl) (λ gap. refl)
fifth-keeps parts.Lower a sweep = cond_both (is_whole sweep.question.range) _ _ (Keeps a) (λ all. refl) (λ gap. refl)
fifth-keeps parts.Rest a sweep = cond_both (is_whole sweep.question.range) _ _ (Keeps a) (λ all. refl) (λ gap. refl)
fifth-keeps parts.All a sweep = cond_both (is_whole sweep.question.range) _ _ (Keeps a) (λ all. refl) (λ gap. refl)
fifth-keeps parts.Whole a sweep = cond_both (is_whole sweep.question.range) _ _ (Keeps a) (λ all. refl) (λ gap. refl)
fifth-keeps parts.End a sweep = cond_both (is_whole sweep.question.range) _ _ (Keeps a) (λ all. refl) (λ gap. refl)
fifth-keeps parts.Spelt a sweep = cond_both (is_whole sweep.question.range) _ _ (Keeps a) (λ all. refl) (λ gap. refl)

silent-keeps : (a : AgentState) (sweep : Sweep) → Keeps a (sweep_silent a sweep)
silent-keeps a sweep = cond_both ((sweep.silences + 1) == TRIES) _ _ (Keeps a)
    (λ five. fifth-keeps sweep.question.part a sweep) (λ fewer. refl)

put_apart-keeps : (a : AgentState) (sweep : Sweep) (u : ℕ) → Keeps a (put_apart a sweep u)
put_apart-keeps a sweep u = cond_both (is_broadcast u) _ _ (Keeps a) (λ no_device. refl)
    (λ device. cond_both (has_room a.apart) _ _ (Keeps a) (λ room. refl) (λ full. refl))

asks_on-keeps : (part : Part) (a : AgentState) (sweep : Sweep) (bads : ℕ) → Keeps a (asks_on part a sweep bads)
asks_on-keeps part a sweep bads = of_part part
  where
    other : Keeps a (asks_on parts.Fresh a sweep bads)
    other = cond_both (bads == bads_aside) _ _ (Keeps a) (λ four. put_apart-keeps a sweep sweep.question.range.hi)
        (λ not_yet. refl)

    of_part : (part : Part) → Keeps a (asks_on part a sweep bads)
    of_part parts.Apart = refl
    of_part parts.Fresh = other
    of_part parts.Lower = other
    of_part parts.Rest = other
    of_part parts.All = other
    of_part parts.Whole = other
    of_part parts.End = other
    of_part parts.Spelt = other

apart-keeps : (a : AgentState) (sweep : Sweep) → Keeps a (sweep_apart a sweep)
apart-keeps a sweep = cond_both (is_one sweep.question.range) _ _ (Keeps a)
    (λ one. cond_both ((sweep.bads + 1) == BAD_ANSWERS) _ _ (Keeps a) (λ all. refl)
    (λ fewer. asks_on-keeps sweep.question.part a sweep (sweep.bads + 1))) (λ several. refl)

spelt-keeps : (a : AgentState) (sweep : Sweep) (u : ℕ) → Keeps a (sweep_spelt a sweep u)
spelt-keeps a sweep u = cond_both (is_wanted (found_uids a) sweep u) _ _ (Keeps a) (λ wanted. refl)
    (λ refused. cond_both (is_stray (found_uids a) a.apart sweep u) _ _ (Keeps a) (λ stray. refl)
    (λ bad. apart-keeps a sweep))

lost-keeps : (a : AgentState) (u tries spare : ℕ) (sweep : Sweep) → Keeps a (swept_lost a u tries spare sweep)
lost-keeps a u tries spare sweep = cond_both ((tries + 1) == TRIES) _ _ (Keeps a)
    (λ last. apart-keeps a (sweep_suspecting u sweep)) (λ fewer. refl)

garbled-keeps : (a : AgentState) (u tries spare : ℕ) (sweep : Sweep)
    → Keeps a (swept_heard a u tries spare sweep Noise)
garbled-keeps a u tries spare sweep = cond_both (nat_lt 0 spare) _ _ (Keeps a) (λ spares. refl)
    (λ counts. lost-keeps a u tries spare (counted sweep))

heard-keeps : (a : AgentState) (phase : Phase) (h : Heard) → Keeps a (heard_by_phase a phase h)
heard-keeps a (Unmuting more left) h = refl
heard-keeps a (MutingKnown u tries spare left) (Acked ack) = found-keeps a (device_from u ack) _
heard-keeps a (MutingKnown u tries spare left) Failed = refl
heard-keeps a (MutingKnown u tries spare left) Silent = refl
heard-keeps a (MutingKnown u tries spare left) (One v) = refl
heard-keeps a (MutingKnown u tries spare left) Noise = refl
heard-keeps a (Searching silences bads spent top below) (Acked ack) = refl
heard-keeps a (Searching silences bads spent top below) Failed = refl
heard-keeps a (Searching silences bads spent top below) Silent = refl
heard-keeps a (Searching silences bads spent top below) (One v) = refl
heard-keeps a (Searching silences bads spent top below) Noise = refl
heard-keeps a (MutingRead u tries spare bads top below) (Acked ack) = found-keeps a (device_from u ack) _
heard-keeps a (MutingRead u tries spare bads top below) Failed = refl
heard-keeps a (MutingRead u tries spare bads top below) Silent = refl
heard-keeps a (MutingRead u tries spare bads top below) (One v) = refl
heard-keeps a (MutingRead u tries spare bads top below) Noise = refl
heard-keeps a (Sweeping sweep) (Acked ack) = apart-keeps a (counted sweep)
heard-keeps a (Sweeping sweep) Failed = apart-keeps a (counted sweep)
heard-keeps a (Sweeping sweep) Silent = silent-keeps a (counted_silent sweep)
heard-keeps a (Sweeping sweep) (One v) = spelt-keeps a (counted_spelt v sweep) v
heard-keeps a (Sweeping sweep) Noise = apart-keeps a (counted sweep)
heard-keeps a (MutingSwept u tries spare sweep) (Acked ack) = found-keeps a (device_from u ack) _
heard-keeps a (MutingSwept u tries spare sweep) Failed = garbled-keeps a u tries spare sweep
heard-keeps a (MutingSwept u tries spare sweep) Silent = lost-keeps a u tries spare (counted sweep)
heard-keeps a (MutingSwept u tries spare sweep) (One v) = garbled-keeps a u tries spare sweep
heard-keeps a (MutingSwept u tries spare sweep) Noise = garbled-keeps a u tries spare sweep
heard-keeps a (Checking u silences sweep) (Acked ack) = refl
heard-keeps a (Checking u silences sweep) Failed = refl
heard-keeps a (Checking u silences sweep) Silent = refl
heard-keeps a (Checking u silences sweep) (One v) = refl
heard-keeps a (Checking u silences sweep) Noise = refl
heard-keeps a (MutingStray u tries spare sweep) (Acked ack) = found-keeps a (device_from u ack) _
heard-keeps a (MutingStray u tries spare sweep) Failed = refl
heard-keeps a (MutingStray u tries spare sweep) Silent = refl
heard-keeps a (MutingStray u tries spare sweep) (One v) = refl
heard-keeps a (MutingStray u tries spare sweep) Noise = refl
heard-keeps a (Ended fault) h = refl

pub fed-search : (a : AgentState) (h : Heard) → (fed a h).search ≡ a.search
fed-search a Failed = refl
fed-search a Silent = heard-keeps a a.phase Silent
fed-search a (One u) = heard-keeps a a.phase (One u)
fed-search a (Acked ack) = heard-keeps a a.phase (Acked ack)
fed-search a Noise = heard-keeps a a.phase Noise
