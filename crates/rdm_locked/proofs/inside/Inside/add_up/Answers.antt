use Rattle.std.proofs.Common.{arith, refl}
use Rattle.rdm_locked.proofs.CallLemmas.{calls_few}
use Rattle.rdm_locked.proofs.FinishLemmas.{all_agree}
use Rattle.rdm_locked.proofs.inside.Inside.add_up.Goals as goal

pub gather-calls-requires : goal.gather-calls-requires
gather-calls-requires g c =
    let me = c.args.self in (
      me.parts.unused,
      rw (c.len_in_all-most.ensures.all, c.log.ensures.log, c.session.ensures.session)
          (omega (arith, calls_few me.session.entries, me.counted)),
      omega (arith, me.parts.one_each, c.requires.parts),
    )

pub returns : goal.returns
returns g c =
    let me = c.args.self in
    let gathered = c.gather-calls.ensures in
    let whole = c.audit.ensures.whole (omega (
      arith,
      gathered.within,
      gathered.parts,
      c.requires.parts,
      c.requires.each,
      me.parts.one_each,
    )) in
    record {
      session = refl;
      joined = omega (arith, gathered.within, gathered.parts, c.requires.parts, c.requires.each, me.parts.one_each);
      each = omega (
        arith,
        gathered.within,
        gathered.parts,
        c.requires.parts,
        c.requires.each,
        me.parts.one_each,
        me.clients,
      );
      calls = gathered.sum;
      counted = omega (arith, gathered.amount, whole, gathered.total, me.counted);
      agree = all_agree me.session me.lists.lists _ me.joined c.args.shares.items me.keeps
          (omega (arith, gathered.within, gathered.parts, c.requires.parts, c.requires.each, me.parts.one_each))
          gathered.merged;
      legal = c.session.ensures.legal;
      promised = c.session.ensures.promised;
    }
