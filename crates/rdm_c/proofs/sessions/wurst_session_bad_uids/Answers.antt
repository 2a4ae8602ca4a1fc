use Rattle.rdm_c.proofs.sessions.wurst_session_bad_uids.Goals as goal

pub returns-in-Some-clause-count : goal.returns-in-Some-clause-count
returns-in-Some-clause-count c is_open = (
  c.bad_uids.result.now,
  c.write_bad_uids-status.ensures.count,
  c.bad_uids.ensures.fits,
  rw (← c.in-Some.ensures.some.1, ← c.deref_mut-session.ensures.value) c.bad_uids.ensures.value,
)

pub returns-in-Some-clause-written : goal.returns-in-Some-clause-written
returns-in-Some-clause-written c done = rw (
  ← c.in-Some.ensures.some.1,
  ← c.deref_mut-session.ensures.value,
  c.write_bad_uids-status.ensures.written done,
) c.bad_uids.ensures.value

pub returns-in-Some-clause-more : goal.returns-in-Some-clause-more
returns-in-Some-clause-more c done = rw (
  ← c.in-Some.ensures.some.1,
  ← c.deref_mut-session.ensures.value,
  c.write_bad_uids-status.ensures.more done,
) c.has_more_bad_uids-has_more.ensures
