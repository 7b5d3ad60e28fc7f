-- A loop that gives each conversation a mark, as far as it has come.
use Rattle.std.proofs.Common.{◌≡◌, ℕ, ◌+◌, ◌<◌, ◌≤◌, List, ◌++◌, map, take, drop, length, get_or, set, refl, sym, ap, subst, ◌∙◌, arith, add-one, Option, append-nil}
use Rattle.std.proofs.lemmas.List.{length-map}
use Rattle.master_spec.specs.declared.setups.Slave.{Slave}
use Rattle.std.specs.List.{flat_map}
use Rattle.std.proofs.lemmas.List.{take_all}
use Rattle.std.proofs.Math.Seq.{map-set_same}
use Rattle.dcp_types.specs.declared.limits.Limits.{Limits}
use Rattle.dcp_ends.specs.Events.{Send}
use Rattle.master_spec.specs.Marks.{Mark}
use Rattle.master_spec.specs.Course.{CourseTalk as Said, marked, sends_after}
use Rattle.master_core.specs.declared.records.Talk.{Talk}
use Rattle.master_core.specs.Each.{Each}
use Rattle.master_core.specs.Talking.{TalkStandsAt, Now, slave_talked_to}
use Rattle.master_core.proofs.Whole.{take_back}
use Rattle.master_core.proofs.Eachs.{Mixed, mixed_step, mixed_sent, mixed_all, each_map, length_mixed}

-- the mark that each makes, and the jobs that they have after it
pub record Progress (later : Now → Now) (m : Said → Option Mark) (IsFit : Now → Type 0) (i : ℕ) (old items : List Talk) (base out : List Send) : Type 0 where
  pub stands : (limits : Limits) (now : Now) (said : List Said) → Each (TalkStandsAt limits now) old said → IsFit now
      → Mixed (λ t talk. TalkStandsAt limits (later now) t (marked limits talk (m talk))) (TalkStandsAt limits now) i items said
  pub sends : (limits : Limits) (now : Now) (said : List Said) → Each (TalkStandsAt limits now) old said → IsFit now
      → out ≡ base ++ flat_map (λ talk. sends_after limits talk (m talk)) (take i said)
  pub room : length out ≤ length base + i
  pub slaves : map slave_talked_to items ≡ map slave_talked_to old

same_length : (xs ys : List Talk) → map slave_talked_to xs ≡ map slave_talked_to ys → length xs ≡ length ys
same_length xs ys e = sym (length-map xs slave_talked_to) ∙ ap (λ (l : List Slave). length l) e ∙ length-map ys slave_talked_to

init : (later : Now → Now) (m : Said → Option Mark) (IsFit : Now → Type 0) (old : List Talk) (base : List Send) → Progress later m IsFit 0 old old base base
init later m IsFit old base = record {
  stands = λ limits now said e fit. e;
  sends = λ limits now said e fit. sym (append-nil base);
  room = omega arith;
  slaves = refl;
}

pub progress_init : (later : Now → Now) (m : Said → Option Mark) (IsFit : Now → Type 0) (old items : List Talk) (base : List Send) → items ≡ old → Progress later m IsFit 0 old items base base
progress_init later m IsFit old items base e = subst (λ (xs : List Talk). Progress later m IsFit 0 old xs base base) (sym e) (init later m IsFit old base)

pub progress_step : (later : Now → Now) (m : Said → Option Mark) (IsFit : Now → Type 0) (i : ℕ) (old items : List Talk) (base out new : List Send) (d t : Talk) → Progress later m IsFit i old items base out → i < length items
    → ((limits : Limits) (now : Now) (talk : Said) → TalkStandsAt limits now (get_or items i d) talk → IsFit now → TalkStandsAt limits (later now) t (marked limits talk (m talk)))
    → ((limits : Limits) (now : Now) (talk : Said) → TalkStandsAt limits now (get_or items i d) talk → IsFit now → new ≡ out ++ sends_after limits talk (m talk))
    → length new ≤ length out + 1 → t.slave ≡ slave_talked_to (get_or items i d) → Progress later m IsFit (i + 1) old (set items i t) base new
progress_step later m IsFit i old items base out new d t p h one two few same = record {
  stands = λ limits now said e fit.
      let P : Talk → Said → Type 0 = λ t talk. TalkStandsAt limits (later now) t (marked limits talk (m talk)) in
      subst (λ (n : ℕ). Mixed P (TalkStandsAt limits now) n (set items i t) said) (sym (add-one i))
      (mixed_step P (TalkStandsAt limits now) i items said d t (p.stands limits now said e fit) h (λ talk s. one limits now talk s fit));
  sends = λ limits now said e fit.
      let P : Talk → Said → Type 0 = λ t talk. TalkStandsAt limits (later now) t (marked limits talk (m talk)) in
      let g : Said → List Send = λ talk. sends_after limits talk (m talk) in
      subst (λ (n : ℕ). new ≡ base ++ flat_map g (take n said)) (sym (add-one i))
      (mixed_sent P (TalkStandsAt limits now) g i items said d base out new (p.stands limits now said e fit) h (p.sends limits now said e fit) (λ talk s. two limits now talk s fit));
  room = omega (arith, few, p.room);
  slaves = map-set_same slave_talked_to items i t d same ∙ p.slaves;
}

pub progress_stands : (later : Now → Now) (m : Said → Option Mark) (IsFit : Now → Type 0) (i : ℕ) (old items : List Talk) (base out : List Send) → Progress later m IsFit i old items base out → length items ≤ i
    → (limits : Limits) (now : Now) (said : List Said) → Each (TalkStandsAt limits now) old said → IsFit now → Each (TalkStandsAt limits (later now)) items (map (λ talk. marked limits talk (m talk)) said)
progress_stands later m IsFit i old items base out p h limits now said e fit =
    let P : Talk → Said → Type 0 = λ t talk. TalkStandsAt limits (later now) t (marked limits talk (m talk)) in
    each_map (TalkStandsAt limits (later now)) (λ talk. marked limits talk (m talk)) items said
    (mixed_all P (TalkStandsAt limits now) i items said (p.stands limits now said e fit) h)

pub progress_sends : (later : Now → Now) (m : Said → Option Mark) (IsFit : Now → Type 0) (i : ℕ) (old items : List Talk) (base out : List Send) → Progress later m IsFit i old items base out → length items ≤ i
    → (limits : Limits) (now : Now) (said : List Said) → Each (TalkStandsAt limits now) old said → IsFit now → out ≡ base ++ flat_map (λ talk. sends_after limits talk (m talk)) said
progress_sends later m IsFit i old items base out p h limits now said e fit =
    let P : Talk → Said → Type 0 = λ t talk. TalkStandsAt limits (later now) t (marked limits talk (m talk)) in
    let g : Said → List Send = λ talk. sends_after limits talk (m talk) in
    let n : length items ≡ length said = length_mixed P (TalkStandsAt limits now) i items said (p.stands limits now said e fit) in
    p.sends limits now said e fit ∙ ap (λ (l : List Said). base ++ flat_map g l) (take_all i said (omega (arith, n, h)))

-- the loop is over: the elements are the list
pub progress_whole : (later : Now → Now) (m : Said → Option Mark) (IsFit : Now → Type 0) (i n : ℕ) (old items : List Talk) (base out : List Send) → Progress later m IsFit i old items base out → length old ≤ n
    → take n (items ++ drop (length items) old) ≡ items
progress_whole later m IsFit i n old items base out p h = take_back n items old (same_length items old p.slaves) h
