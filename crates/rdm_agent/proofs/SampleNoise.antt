-- A run on a noisy line.
use Rattle.rdm_agent.proofs.Common.{ℕ, zero, suc, List, [], ◌∷◌, ◌++◌, replicate, drop, refl, inl, inr, arith, Seen}
use Rattle.rdm_agent.proofs.Common.{LineState, Chain, NoisyStep, Silent, Branch, sample_uid, exchange}
use Rattle.rdm_wire.specs.Noisy.{NoisyTraceWith}
use Rattle.rdm_agent.specs.SampleRun.{lower_branch, noisy_run}
use Rattle.rdm_agent.specs.Bound.{IsNoisy}
use Rattle.rdm_agent.proofs.SampleHonest.{none_muted, one_muted, line, counts}

-- the same exchange again and again, which leaves the line as it is
again : (s : LineState) (e : Seen) (n : ℕ) (x : List Seen) → NoisyStep (sample_uid ∷ []) s e.asked e.heard s
    → Chain (NoisyStep (sample_uid ∷ [])) s x → Chain (NoisyStep (sample_uid ∷ [])) s (replicate n e ++ x)
again s e zero x step rest = rest
again s e (suc n) x step rest = inr (s, step, again s e n x step rest)

pub run_is_noisy : NoisyTraceWith (sample_uid ∷ []) 3 noisy_run
unfolding again
run_is_noisy = (
  (
    record { devices = (record { in_range = omega arith; own = refl }, tt); ascending = (tt, tt) },
    none_muted,
    inr (
      line none_muted 0 0 1,
      ((λ u. record { fewer = λ m. m; third = λ h. refl }), counts none_muted 0 0 1 (omega arith) (omega arith)),
      inr (
        line none_muted 0 0 2,
        ((λ u. record { fewer = λ m. m; third = λ h. refl }), counts none_muted 0 0 2 (omega arith) (omega arith)),
        inr (
          line none_muted 0 0 3,
          ((λ u. record { fewer = λ m. m; third = λ h. refl }), counts none_muted 0 0 3 (omega arith) (omega arith)),
          inr (
            line none_muted 0 0 0,
            ((λ alone absent e. cc), (λ u. refl), counts none_muted 0 0 0 (omega arith) (omega arith)),
            inr (
              line none_muted 0 0 0,
              (
                (λ alone absent e. absurd (omega (arith, alone))),
                (λ u. refl),
                counts none_muted 0 0 0 (omega arith) (omega arith),
              ),
              inr (
                line none_muted 0 1 0,
                ((λ v other. refl), inr (refl, inr refl, counts none_muted 0 1 0 (omega arith) (omega arith))),
                inr (
                  line one_muted 0 0 0,
                  ((λ v other. other), inl (refl, refl, counts one_muted 0 0 0 (omega arith) (omega arith))),
                  again (line one_muted 0 0 0) (exchange lower_branch Silent) 5 (drop 12 noisy_run)
                      ((λ alone absent e. cc), (λ u. refl), counts one_muted 0 0 0 (omega arith) (omega arith))
                      (inr (
                        line one_muted 0 0 0,
                        ((λ alone absent e. cc), (λ u. refl), counts one_muted 0 0 0 (omega arith) (omega arith)),
                        again (line one_muted 0 0 0) (exchange (Branch 0x800000000000 0xbfffffffffff) Silent) 5
                            (drop 18 noisy_run)
                            ((λ alone absent e. cc), (λ u. refl), counts one_muted 0 0 0 (omega arith) (omega arith))
                            (again (line one_muted 0 0 0) (exchange (Branch 0xc00000000000 0xffffffffffff) Silent) 5 []
                            ((λ alone absent e. cc), (λ u. refl), counts one_muted 0 0 0 (omega arith) (omega arith))
                            tt),
                      )),
                ),
              ),
            ),
          ),
        ),
      ),
    ),
  ),
  refl,
)

-- of which few branches in a row are disturbed
pub run_is_calm : IsNoisy (sample_uid ∷ []) 3 noisy_run
unfolding again run_is_noisy
run_is_calm = record {
  noisy = run_is_noisy;
  few_in_a_row = (
    omega arith,
    (
      omega arith,
      (
        omega arith,
        (
          omega arith,
          (
            omega arith,
            (
              omega arith,
              (
                omega arith,
                (
                  omega arith,
                  (
                    omega arith,
                    (
                      omega arith,
                      (
                        omega arith,
                        (
                          omega arith,
                          (
                            omega arith,
                            (
                              omega arith,
                              (
                                omega arith,
                                (
                                  omega arith,
                                  (
                                    omega arith,
                                    (
                                      omega arith,
                                      (
                                        omega arith,
                                        (
                                          omega arith,
                                          (
                                            omega arith,
                                            (
                                              omega arith,
                                              (
                                                omega arith,
                                                tt,
                                              ),
                                            ),
                                          ),
                                        ),
                                      ),
                                    ),
                                  ),
                                ),
                              ),
                            ),
                          ),
                        ),
                      ),
                    ),
                  ),
                ),
              ),
            ),
          ),
        ),
      ),
    ),
  );
  few = omega arith;
  no_failure = (
    (λ e. cc),
    (
      (λ e. cc),
      (
        (λ e. cc),
        (
          (λ e. cc),
          (
            (λ e. cc),
            (
              (λ e. cc),
              (
                (λ e. cc),
                (
                  (λ e. cc),
                  (
                    (λ e.
                        cc),
                    (
                      (λ e. cc),
                      (
                        (λ e. cc),
                        (
                          (λ e. cc),
                          (
                            (λ e. cc),
                            (
                              (λ e. cc),
                              (
                                (λ e. cc),
                                (
                                  (λ e. cc),
                                  (
                                    (λ e. cc),
                                    (
                                      (λ e. cc),
                                      ((λ e. cc), ((λ e. cc), ((λ e. cc), ((λ e. cc), ((λ e. cc), tt))))),
                                    ),
                                  ),
                                ),
                              ),
                            ),
                          ),
                        ),
                      ),
                    ),
                  ),
                ),
              ),
            ),
          ),
        ),
      ),
    ),
  );
}
