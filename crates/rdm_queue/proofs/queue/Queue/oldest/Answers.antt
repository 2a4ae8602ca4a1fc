use Rattle.rdm_queue.proofs.Common.{◌≡◌, ◌<◌, ℕ, List, length, None, Some, slice_get, sym, ap, ◌∙◌, subst, refl}
use Rattle.rdm_queue.proofs.Common.{none-some, arith, slice_get-get_or}
use Rattle.rdm_queue.proofs.Common.{false≢true, lt-ltb, Client, state_of, accepted_is, index_within}
use Rattle.rdm_queue.proofs.BodyLemmas.FieldLemmas.{found_at}
use Rattle.rdm_queue.proofs.BodyLemmas.OldestLemmas.{IsFirstOwner, first_owner}
use Rattle.rdm_queue.proofs.queue.Queue.oldest.Goals.{In_ok-front, In_ok-get}
use Rattle.rdm_queue.proofs.queue.Queue.oldest.Goals as goal

-- the client of the oldest request, which is the first in its ring
first : (c : In_ok-front) (at : ℕ) → at ≡ c.in_ok-front.field-0.now
    → IsFirstOwner (state_of c.self.inside) c.self.inside.clients.items at
first c at is =
    let some : 0 < length c.self.inside.owners.items =
    (let long = c.in_ok-front.ensures.variant.0 refl in omega (arith, c.self.inside.owners.ok.0)) in
    first_owner (state_of c.self.inside) c.self.inside.clients.items c.self.inside.owners.items _ at
    c.self.invariant.0 c.self.invariant.1
    (slice_get-get_or c.self.inside.owners.items 0 c.in_ok-front.field-0.now some
    ∙ ap (λ n. Some n) (sym c.in_ok-front.ensures.lookup ∙ sym is))

pub returns-in_err-get : goal.returns-in_err-get
returns-in_err-get c =
    let own = first (goal.at.returns-in_err-get c).In_ok-front c.from-at.result c.from-at.ensures in
    let within : c.from-at.result < length c.deref.result.now =
    subst (λ (ks : List Client). c.from-at.result < length ks) (sym c.deref.ensures.0)
    (index_within c.self.inside.clients.items c.from-at.result own.client own.at) in
    absurd (false≢true (c.in_err-get.ensures.lookup.0 ∙ lt-ltb c.from-at.result (length c.deref.result.now) within))

-- the client that was found is that one
same_client : (c : In_ok-get) (own : IsFirstOwner (state_of c.self.inside) c.self.inside.clients.items c.from-at.result)
    → own.client ≡ c.in_ok-get.field-0.now
same_client c own =
    let found : slice_get c.self.inside.clients.items c.from-at.result ≡ Some c.in_ok-get.field-0.now =
    found_at c.self.inside.clients.items c.deref.result.now c.from-at.result c.in_ok-get.field-0.now c.deref.ensures.0
    c.in_ok-get.ensures.lookup.3.0 c.in_ok-get.ensures.lookup.1 in
    let both : Some own.client ≡ Some c.in_ok-get.field-0.now = sym own.at ∙ found in cc

pub returns-in_err-oldest : goal.returns-in_err-oldest
returns-in_err-oldest c =
    let own = first (goal.at.returns-in_err-oldest c).In_ok-front c.from-at.result c.from-at.ensures in
    let same = same_client (goal.at.returns-in_err-oldest c).In_ok-get own in
    let none : slice_get own.client.waiting.items 0 ≡ None =
    rw same (rw c.in_err-oldest.was at (sym c.oldest.ensures)) in
    let no : None ≡ Some own.oldest = sym none ∙ own.first in absurd (none-some own.oldest no)

pub returns : goal.returns
returns c =
    let own = first (goal.at.returns c).In_ok-front c.from-at.result c.from-at.ensures in
    let same = same_client (goal.at.returns c).In_ok-get own in
    let some : slice_get own.client.waiting.items 0 ≡ Some c.in_ok-oldest.oldest.now =
    rw same (rw c.in_ok-oldest.was at (sym c.oldest.ensures)) in
    let one : Some own.oldest ≡ Some c.in_ok-oldest.oldest.now = sym own.first ∙ some in
    let is : own.oldest ≡ c.in_ok-oldest.oldest.now = cc in
    rw (← c.self.view_is) (ap (λ w. Some (accepted_is c.from-at.result w)) (sym is) ∙ sym own.is)
