-- The first conversation that has ended.
use Rattle.std.proofs.Common.{◌≡◌, ℕ, zero, suc, ◌+◌, ◌<◌, ◌≤◌, Option, Some, None, List, [], ◌∷◌, drop, length, get_or, refl, sym, ap, ◌∙◌, arith, add-one}
use Rattle.std.proofs.lemmas.List.{drop_all}
use Rattle.master_spec.specs.declared.causes.Verdict.{Verdict}
use Rattle.master_spec.specs.declared.causes.Verdict.TheVariants.{Going, Passed, Ended}
use Rattle.master_spec.specs.declared.reports.Report.{Report}
use Rattle.master_spec.specs.declared.setups.Slave.{Slave}
use Rattle.master_spec.specs.Marks.{verdict_of}
use Rattle.master_spec.specs.Course.{CourseTalk as Said, failed, failed_by}
use Rattle.master_core.specs.declared.records.Talk.{Talk}
use Rattle.master_core.specs.Each.{Each}
use Rattle.master_core.proofs.Eachs.{each_at, length_each}

fails : (phase : ℕ) (slave : Slave) (v : Verdict) (rest : Option Report) (r : Report) → Some r ≡ failed_by phase slave v None → Some r ≡ failed_by phase slave v rest
fails phase slave Going rest r e = absurd (cc)
fails phase slave Passed rest r e = absurd (cc)
fails phase slave (Ended cause) rest r e = e

passes : (phase : ℕ) (slave : Slave) (v : Verdict) (rest : Option Report) → None ≡ failed_by phase slave v None → failed_by phase slave v rest ≡ rest
passes phase slave Going rest e = refl
passes phase slave Passed rest e = refl
passes phase slave (Ended cause) rest e = absurd (cc)

failed_at : (phase : ℕ) (i : ℕ) (said : List Said) (d : Said) → i < length said
    → failed phase (drop i said) ≡ failed_by phase (get_or said i d).slave (verdict_of (get_or said i d).marks) (failed phase (drop (suc i) said))
failed_at phase i [] d h = absurd (omega (arith, h))
failed_at phase zero (t ∷ said) d h = refl
failed_at phase (suc i) (t ∷ said) d h = failed_at phase i said d (omega (arith, h))

pub fails_at : (R : Talk → Said → Type 0) (phase i : ℕ) (ts : List Talk) (said : List Said) (d : Talk) (b : Said) (r : Report) → Each R ts said → i < length ts
    → ((talk : Said) → R (get_or ts i d) talk → Some r ≡ failed_by phase talk.slave (verdict_of talk.marks) None) → Some r ≡ failed phase (drop i said)
fails_at R phase i ts said d b r e h f =
    let t = get_or said i b in
    let l : i < length said = omega (arith, h, length_each R ts said e) in
    fails phase t.slave (verdict_of t.marks) (failed phase (drop (suc i) said)) r (f t (each_at R i ts said d b e h)) ∙ sym (failed_at phase i said b l)

pub passes_at : (R : Talk → Said → Type 0) (phase i : ℕ) (ts : List Talk) (said : List Said) (d : Talk) (b : Said) → Each R ts said → i < length ts
    → ((talk : Said) → R (get_or ts i d) talk → None ≡ failed_by phase talk.slave (verdict_of talk.marks) None) → failed phase (drop i said) ≡ failed phase (drop (i + 1) said)
passes_at R phase i ts said d b e h f =
    let t = get_or said i b in
    let l : i < length said = omega (arith, h, length_each R ts said e) in
    failed_at phase i said b l ∙ passes phase t.slave (verdict_of t.marks) (failed phase (drop (suc i) said)) (f t (each_at R i ts said d b e h)) ∙ ap (λ (n : ℕ). failed phase (drop n said)) (sym (add-one i))

pub none_left : (R : Talk → Said → Type 0) (phase i : ℕ) (ts : List Talk) (said : List Said) → Each R ts said → length ts ≤ i → failed phase (drop i said) ≡ None
none_left R phase i ts said e h = ap (λ (l : List Said). failed phase l) (drop_all i said (omega (arith, h, length_each R ts said e)))
