use Rattle.rdm_queue.proofs.Common.{◌≡◌, true, sym, ap, ◌∙◌, is_idle, LogState}
use Rattle.rdm_queue.proofs.BodyLemmas.RotateLemmas.{session_rotated}
use Rattle.rdm_queue.proofs.session.Session.rotate.Goals as goal

pub invariant_of-self : goal.invariant_of-self
invariant_of-self c =
    let k = c.self.inside.log in
    let after = c.self.invariant.after in
    let idle : is_idle k.entries ≡ true =
    ap (λ (l : LogState). is_idle l.entries) c.self.view_is ∙ (sym c.is_idle.ensures ∙ c.if-not-is_idle.false) in
    rw (
      c.replace-old_log.ensures.after,
      c.after-next_log.ensures.log,
      c.requires.empty,
      c.opening.ensures k.opening k.entries after,
    )
    (session_rotated k.opening k.entries c.self.inside.controller c.args.log.room c.args.log.gone c.args.log.keeps
    c.after-next_log.ensures.some idle after)
