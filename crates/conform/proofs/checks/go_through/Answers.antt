use Rattle.std.proofs.Common.{◌≡◌, ◌≤◌, ◌+◌, ℕ, suc, true, false, List, [], ◌∷◌, ◌++◌, length, take, slice_get, Some, sym, ap, subst, ◌∙◌, arith, rules}
use Rattle.dcp_types.specs.declared.addresses.Address.{Address}
use Rattle.dcp_ends.specs.declared.entries.LogEntry.{LogEntry}
use Rattle.dcp_ends.specs.Logs.{event_at, events_at}
use Rattle.dcp_record.specs.EntryRefs.{entry_told}
use Rattle.slave_desc.specs.declared.descriptions.SlaveDesc.{SlaveDesc}
use Rattle.conform.specs.declared.answers.BadWhy.TheVariants as whys
use Rattle.conform.specs.declared.answers.Conformance.TheVariants.{Bad}
use Rattle.conform.specs.Checks.{Judges}
use Rattle.conform.specs.Following.{HasFollowed}
use Rattle.conform.specs.Standing.{may_end}
use Rattle.conform.proofs.Steps.{followed_desc}
use Rattle.conform.proofs.Judging.{one_more, inside, events_then, one_event, broken, all_followed, left_open}
use Rattle.conform.proofs.checks.go_through.Goals as goal

pub returns-in-Some-follow : goal.returns-in-Some-follow
returns-in-Some-follow c = λ d sound h0.
    let i = c.entries.invariant in
    let here : slice_get c.args.entries.now c.entries.cursor.at ≡ Some (entry_told c.in-Some.entry) = subst (λ (l : List LogEntry). slice_get l c.entries.cursor.at ≡ Some (entry_told c.in-Some.entry)) i.entries c.in-Some.ensures.here in
    let h = i.followed d sound h0 in
    subst (λ (n : ℕ). Judges d c.args.entries.now (Bad n c.in-Some-follow.why)) (sym c.at-at.ensures.at)
    (broken c.entries.follower d c.args.entries.now c.entries.cursor.at (entry_told c.in-Some.entry) c.in-Some-follow.why here h (c.in-Some-follow.ensures d (take c.entries.cursor.at c.args.entries.now) sound h))

pub entries-preserved : goal.entries-preserved
entries-preserved c =
    let i = c.entries.invariant in
    let here : slice_get c.args.entries.now c.entries.cursor.at ≡ Some (entry_told c.in-Some.entry) = subst (λ (l : List LogEntry). slice_get l c.entries.cursor.at ≡ Some (entry_told c.in-Some.entry)) i.entries c.in-Some.ensures.here in
    let at : c.next.new.self.at ≡ suc c.entries.cursor.at = omega (arith, ap (λ p. p.at) c.in-Some.ensures.behind) in
    let more : take c.next.new.self.at c.args.entries.now ≡ take c.entries.cursor.at c.args.entries.now ++ entry_told c.in-Some.entry ∷ [] =
    ap (λ (n : ℕ). take n c.args.entries.now) at ∙ one_more c.args.entries.now c.entries.cursor.at (entry_told c.in-Some.entry) here in
    record {
      entries = ap (λ p. p.entries) c.in-Some.ensures.behind ∙ i.entries;
      within = omega (arith, at, inside c.args.entries.now c.entries.cursor.at (entry_told c.in-Some.entry) here);
      few = omega (arith, at, i.few, c.counted-events.ensures, one_event c.address-place.result (entry_told c.in-Some.entry));
      followed = λ d sound h0. subst (λ (l : List LogEntry). HasFollowed c.follow.new.follower d l) (sym more) (c.in-None.ensures d (take c.entries.cursor.at c.args.entries.now) sound (i.followed d sound h0));
      counted = c.counted-events.ensures ∙ ap (λ (n : ℕ). n + length (event_at c.address-place.result (entry_told c.in-Some.entry))) i.counted
          ∙ sym (events_then c.address-place.result (take c.entries.cursor.at c.args.entries.now) (entry_told c.in-Some.entry)) ∙ ap (λ (l : List LogEntry). length (events_at c.address-place.result l)) (sym more);
      place = i.place;
    }

pub returns-then-may_end : goal.returns-then-may_end
returns-then-may_end c = λ d sound h0.
    let i = c.entries.invariant in
    let r : c.may_end.result ≡ true = search rules in
    let m : may_end c.entries.follower.awaited ≡ true = sym c.may_end.ensures ∙ r in
    let gone : length c.args.entries.now ≤ c.entries.cursor.at = omega (arith, ap length i.entries) in
    let place : c.address-place.result ≡ d.address = i.place ∙ ap (λ (k : SlaveDesc). k.address) (followed_desc c.args.follower.now d [] h0) in
    all_followed c.entries.follower d c.args.entries.now c.entries.cursor.at c.entries.events gone (i.followed d sound h0) m
    (i.counted ∙ ap (λ (a : Address). length (events_at a (take c.entries.cursor.at c.args.entries.now))) place)

pub returns-else-may_end : goal.returns-else-may_end
returns-else-may_end c = λ d sound h0.
    let i = c.entries.invariant in
    let r : c.may_end.result ≡ false = search rules in
    let m : may_end c.entries.follower.awaited ≡ false = sym c.may_end.ensures ∙ r in
    let gone : c.entries.cursor.at ≡ length c.args.entries.now = omega (arith, ap length i.entries) in
    subst (λ (n : ℕ). Judges d c.args.entries.now (Bad n whys.Missing)) (sym c.at.ensures.at)
    (left_open c.entries.follower d c.args.entries.now c.entries.cursor.at gone (i.followed d sound h0) m)
