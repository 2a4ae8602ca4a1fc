-- Nothing starts after a close.
use Rattle.rdm_log.proofs.Common.{◌≡◌, true, List, [], ◌∷◌, ◌++◌, refl, sym, ◌∙◌, append_assoc, false≢true, EachAfter}
use Rattle.rdm_log.proofs.Common.{Opening, Entry, Join, Accept, Ask, Send, Close, joins, accepts, asks, sends}
use Rattle.rdm_log.proofs.Common.{closed_after, is_closed, MayFollow, Legal}
use Rattle.rdm_log.specs.declared.entry.Owner.TheVariants as owners
use Rattle.rdm_log.specs.promises.Headline.{NothingStarts, NothingAfterClose}
use Rattle.rdm_log.proofs.LogLemmas.PushLemmas.{joins-append, accepts-append, asks-append, sends-append, is_closed-push}
use Rattle.rdm_log.specs.declared.work.Work.TheVariants as works
use Rattle.rdm_log.proofs.LogLemmas.RefusalLemmas.{join_passes, work_passes}

stays_closed : (e : Entry) → closed_after true e ≡ true
stays_closed Close = refl
stays_closed _ = refl

pub closed_more : (o : Opening) (h : List Entry) (e : Entry) → is_closed o h ≡ true → is_closed o (h ++ e ∷ []) ≡ true
closed_more o h e closed = is_closed-push o h e ∙ rw closed (stays_closed e)

-- an entry that starts nothing, before others that don't
starts_none : (e : Entry) (more : List Entry) → NothingStarts (e ∷ []) → NothingStarts more → NothingStarts (e ∷ more)
starts_none e more one rest = record {
  no_client = joins-append (e ∷ []) more ∙ rw (one.no_client, rest.no_client) refl;
  no_request = accepts-append (e ∷ []) more ∙ rw (one.no_request, rest.no_request) refl;
  no_discovery = asks-append (e ∷ []) more ∙ rw (one.no_discovery, rest.no_discovery) refl;
  no_frame = sends-append (e ∷ []) more ∙ rw (one.no_frame, rest.no_frame) refl;
}

-- for an entry that may follow if the queue is closed
one_after : (o : Opening) (h : List Entry) (e : Entry) → is_closed o h ≡ true → MayFollow o h e → NothingStarts (e ∷ [])
unfolding joins accepts asks sends
one_after o h (Join c n) closed may = absurd (false≢true (sym (join_passes o h n may.1).not_closed ∙ closed))
one_after o h (Accept c n request) closed may =
    absurd (false≢true (sym (work_passes o h c.0 (works.Submit request) may.1).not_closed ∙ closed))
one_after o h (Ask c n kind) closed may =
    absurd (false≢true (sym (work_passes o h c.0 (works.Discover kind) may.1).not_closed ∙ closed))
one_after o h (Send (owners.Run r) frame) closed may = absurd (false≢true (sym may.1.not_closed ∙ closed))
one_after o h (Send (owners.Request n) frame) closed may = absurd (false≢true (sym may.1.not_closed ∙ closed))
one_after o h _ closed may = record { no_client = refl; no_request = refl; no_discovery = refl; no_frame = refl }

nothing_after : (o : Opening) (h more : List Entry) → is_closed o h ≡ true → EachAfter (MayFollow o) (h ++ more)
    → NothingStarts more
unfolding joins accepts asks sends
nothing_after o h [] closed each = record { no_client = refl; no_request = refl; no_discovery = refl; no_frame = refl }
nothing_after o h (e ∷ more) closed each =
    starts_none e more (one_after o h e closed (each h more e refl))
    (nothing_after o (h ++ e ∷ []) more (closed_more o h e closed) (rw (append_assoc h (e ∷ []) more) each))

starts_nothing : (o : Opening) (h : List Entry) → Legal o h → (front back : List Entry) → h ≡ front ++ Close ∷ back
    → NothingStarts back
starts_nothing o h legal front back is =
    nothing_after o (front ++ Close ∷ []) back (is_closed-push o front Close)
    (rw (append_assoc front (Close ∷ []) back, ← is) legal.each)

closed_from_start : (o : Opening) (h : List Entry) → Legal o h → o.closed ≡ true → NothingStarts h
unfolding is_closed
closed_from_start o h legal closed = nothing_after o [] h closed legal.each

pub after_close : (o : Opening) (h : List Entry) → Legal o h → NothingAfterClose o h
after_close o h legal = record { after = starts_nothing o h legal; closed_before = closed_from_start o h legal }
