-- Each frame of a request carries that request.
use Rattle.rdm_log.proofs.Common.{◌≡◌, ℕ, ◌+◌, ◌%◌, length, zero, suc, true, List, [], ◌∷◌, ◌++◌, Some, slice_get, map}
use Rattle.rdm_log.proofs.Common.{zip, refl, sym, ◌∙◌, eqb-true, eq-eqb, false≢true, none-some, same_Some, ArrayVec}
use Rattle.rdm_log.proofs.Common.{EachAfter, Request, LineEvent, ClientId, Opening, Entry, Accept, Send, Accepted}
use Rattle.rdm_log.proofs.Common.{Sending, OwnedExchange, traded_of, accepts, sends, cames, finishes, traded}
use Rattle.rdm_log.proofs.Common.{is_request, next_tn, MaySendRequest, MayFollow, Legal, of_request}
use Rattle.rdm_log.specs.declared.entry.Owner.TheVariants as owners
use Rattle.rdm_log.specs.promises.Headline.{CarriesRequest, OwnRequests}
use Rattle.rdm_log.proofs.LogLemmas.Indices.{slice_get-append_left, each_index_push}
use Rattle.rdm_log.proofs.LogLemmas.PushLemmas.{accepts-push, sends-push}
use Rattle.rdm_log.proofs.LogLemmas.LegalFacts.{along, unfinished_index}
use Rattle.rdm_log.proofs.PromiseLemmas.StableResults.{filter_has}

-- each frame that was sent for a request is its packet, numbered by its index
abbrev SendsCarry : Opening → List Entry → Type 0
SendsCarry o h =
    (i : ℕ) (s : Sending) → slice_get (sends h) i ≡ Some s → (n : ℕ) → is_request n s.owner ≡ true
    → CarriesRequest o h n ((o.next_tn + i) % 256) s.frame.items

carries_later : (o : Opening) (h k : List Entry) (more : List Accepted) (n tn : ℕ) (frame : List ℕ)
    → accepts k ≡ accepts h ++ more → CarriesRequest o h n tn frame → CarriesRequest o k n tn frame
carries_later o h k more n tn frame is carries = record {
  accepted = carries.accepted;
  index = carries.index;
  stands = rw is (slice_get-append_left (accepts h) more carries.index carries.accepted carries.stands);
  number = carries.number;
  packet = carries.packet;
}

carries_still : (o : Opening) (h k : List Entry) (n tn : ℕ) (frame : List ℕ) → accepts k ≡ accepts h
    → CarriesRequest o h n tn frame → CarriesRequest o k n tn frame
carries_still o h k n tn frame is carries = record {
  accepted = carries.accepted;
  index = carries.index;
  stands = rw is carries.stands;
  number = carries.number;
  packet = carries.packet;
}

carries_same : (o : Opening) (h k : List Entry) → accepts k ≡ accepts h → sends k ≡ sends h → SendsCarry o h
    → SendsCarry o k
carries_same o h k accepted sent before =
    λ i s at n own. carries_still o h k n _ s.frame.items accepted (before i s (rw sent at at) n own)

carries_accept : (o : Opening) (h : List Entry) (c : ClientId) (n : ℕ) (request : Request) → SendsCarry o h
    → SendsCarry o (h ++ Accept c n request ∷ [])
carries_accept o h c n request before =
    let e = Accept c n request in
    let a : Accepted = record { client = c.0; number = n; request = request } in
    λ i s at m own. carries_later o h (h ++ e ∷ []) (a ∷ []) m _ s.frame.items (accepts-push h e)
    (before i s (rw (sends-push h e) at at) m own)

carries_send : (o : Opening) (h : List Entry) (n : ℕ) (frame : ArrayVec ℕ) → MaySendRequest o h n frame → SendsCarry o h
    → SendsCarry o (h ++ Send (owners.Request n) frame ∷ [])
carries_send o h n frame may before =
    rw (sends-push h e)
    (each_index_push
    (λ i x. (m : ℕ) → is_request m x.owner ≡ true
    → CarriesRequest o (h ++ e ∷ []) m ((o.next_tn + i) % 256) x.frame.items) (sends h) s earlier own_frame)
  where
    e : Entry
    e = Send (owners.Request n) frame

    s : Sending
    s = record { owner = owners.Request n; frame = frame }

    earlier : (i : ℕ) (x : Sending) → slice_get (sends h) i ≡ Some x → (m : ℕ) → is_request m x.owner ≡ true
        → CarriesRequest o (h ++ e ∷ []) m ((o.next_tn + i) % 256) x.frame.items
    earlier i x at m own =
        carries_still o h (h ++ e ∷ []) m _ x.frame.items (accepts-push h e) (before i x at m own)

    own_frame : (m : ℕ) → is_request m (owners.Request n) ≡ true
        → CarriesRequest o (h ++ e ∷ []) m (next_tn o h) frame.items
    own_frame m own = record {
      accepted = may.accepted;
      index = length (finishes h) + 0;
      stands = rw (accepts-push h e) (unfinished_index h 0 may.accepted may.lowest);
      number = sym may.number ∙ sym (eqb-true m n own);
      packet = may.packet;
    }

carries_run_send : (o : Opening) (h : List Entry) (r : ℕ) (frame : ArrayVec ℕ) → SendsCarry o h
    → SendsCarry o (h ++ Send (owners.Run r) frame ∷ [])
carries_run_send o h r frame before =
    rw (sends-push h e)
    (each_index_push
    (λ i x. (m : ℕ) → is_request m x.owner ≡ true
    → CarriesRequest o (h ++ e ∷ []) m ((o.next_tn + i) % 256) x.frame.items) (sends h) s
    (λ i x at m own. carries_still o h (h ++ e ∷ []) m _ x.frame.items (accepts-push h e)
    (before i x at m own)) (λ m own. absurd (false≢true own)))
  where
    e : Entry
    e = Send (owners.Run r) frame

    s : Sending
    s = record { owner = owners.Run r; frame = frame }

carries_step : (o : Opening) (h : List Entry) (e : Entry) → EachAfter (MayFollow o) h → SendsCarry o h → MayFollow o h e
    → SendsCarry o (h ++ e ∷ [])
carries_step o h (Accept c n request) each before may = carries_accept o h c n request before
carries_step o h (Send (owners.Request n) frame) each before may = carries_send o h n frame may.1 before
carries_step o h (Send (owners.Run r) frame) each before may = carries_run_send o h r frame before
carries_step o h e each before may = carries_same o h (h ++ e ∷ []) (accepts-push h e) (sends-push h e) before

carries_none : (o : Opening) → SendsCarry o []
unfolding sends
carries_none o = λ i s at n own. absurd (none-some s at)

-- the frame of an exchange was sent
sent_first : (ss : List Sending) (es : List LineEvent) (j : ℕ) (t : OwnedExchange)
    → slice_get (map traded_of (zip ss es)) j ≡ Some t → slice_get ss j ≡ Some (record {
      owner = t.owner;
      frame = t.frame;
    })
sent_first [] es j t at = absurd (none-some t at)
sent_first (s ∷ ss) [] j t at = absurd (none-some t at)
sent_first (s ∷ ss) (e ∷ es) zero t at = rw (← same_Some (traded_of (s, e)) t at) refl
sent_first (s ∷ ss) (e ∷ es) (suc j) t at = sent_first ss es j t at

traded_sent : (h : List Entry) (j : ℕ) (t : OwnedExchange) → slice_get (traded h) j ≡ Some t
    → slice_get (sends h) j ≡ Some (record { owner = t.owner; frame = t.frame })
unfolding traded
traded_sent h j t at = sent_first (sends h) (cames h) j t at

pub own_requests : (o : Opening) (h : List Entry) → Legal o h → OwnRequests o h
unfolding of_request
own_requests o h legal = record {
  sent = λ i n frame at. sends_carry i (record { owner = owners.Request n; frame = frame }) at n (eq-eqb n n refl);
  carried = λ n i t at.
      let found = filter_has (λ (x : OwnedExchange). is_request n x.owner) (traded h) i t at in (
        _,
        sends_carry found.0 (record { owner = t.owner; frame = t.frame }) (traded_sent h found.0 t found.1) n
            found.2,
      );
}
  where
    sends_carry : SendsCarry o h
    sends_carry = along o (λ k. SendsCarry o k) (carries_none o) (carries_step o) h legal.each
