use Rattle.std.proofs.Common.{◌≡◌, true, false, sym, ap, ◌∙◌, rules, refl}
use Rattle.dcp_types.specs.declared.addresses.Address.{Address}
use Rattle.dcp_ends.specs.Logs.{same_address}
use Rattle.dcp_ends.specs.declared.entries.LogEntry.TheVariants.{Turn}
use Rattle.conform.specs.Standing.{may_end}
use Rattle.conform.proofs.Steps.{place_is, passed_by, is_missing, turn_followed}
use Rattle.conform.proofs.checks.follow_turn.Goals as goal

pub returns-then-not-same_address : goal.returns-then-not-same_address
returns-then-not-same_address c = λ d before sound h.
    let r : c.same_address.result ≡ false = search rules in
    let e : same_address c.args.at c.args.follower.now.desc.now.address ≡ false = ap (λ (k : Address). same_address c.args.at k) (sym c.address.ensures) ∙ sym c.same_address.ensures ∙ r in
    let own : same_address c.args.at d.address ≡ false = place_is c.args.follower.now d before c.args.at false h e in
    passed_by c.args.follower.now d before (Turn c.args.at) own h

pub returns-then-not-may_end : goal.returns-then-not-may_end
returns-then-not-may_end c = λ d before sound h.
    let r : c.same_address.result ≡ true = search rules in
    let e : same_address c.args.at c.args.follower.now.desc.now.address ≡ true = ap (λ (k : Address). same_address c.args.at k) (sym c.address.ensures) ∙ sym c.same_address.ensures ∙ r in
    let own : same_address c.args.at d.address ≡ true = place_is c.args.follower.now d before c.args.at true h e in
    let q : c.may_end.result ≡ false = search rules in
    let m : may_end c.args.follower.now.awaited ≡ false = sym c.may_end.ensures ∙ q in
    is_missing c.args.follower.now d before (Turn c.args.at) refl own h m

pub returns : goal.returns
returns c = λ d before sound h.
    let r : c.same_address.result ≡ true = search rules in
    let e : same_address c.args.at c.args.follower.now.desc.now.address ≡ true = ap (λ (k : Address). same_address c.args.at k) (sym c.address.ensures) ∙ sym c.same_address.ensures ∙ r in
    let own : same_address c.args.at d.address ≡ true = place_is c.args.follower.now d before c.args.at true h e in
    let q : c.may_end.result ≡ true = search rules in
    let m : may_end c.args.follower.now.awaited ≡ true = sym c.may_end.ensures ∙ q in
    turn_followed c.args.follower.now d c.on_turn.new.self before c.args.at own h m (λ x k. c.on_turn.ensures d x sound k)
