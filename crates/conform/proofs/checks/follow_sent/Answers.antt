use Rattle.std.proofs.Common.{◌≡◌, true, false, sym, ap, ◌∙◌, rules, refl}
use Rattle.dcp_types.specs.declared.addresses.Address.{Address}
use Rattle.dcp_ends.specs.Logs.{same_address}
use Rattle.dcp_ends.specs.declared.entries.LogEntry.TheVariants.{Sent}
use Rattle.conform.proofs.Steps.{place_is, passed_by, sent_followed}
use Rattle.conform.proofs.checks.follow_sent.Goals as goal

pub returns-then-not-same_address : goal.returns-then-not-same_address
returns-then-not-same_address c = λ d before sound h.
    let r : c.same_address.result ≡ false = search rules in
    let e : same_address c.args.from c.args.follower.now.desc.now.address ≡ false = ap (λ (k : Address). same_address c.args.from k) (sym c.address.ensures) ∙ sym c.same_address.ensures ∙ r in
    let own : same_address c.args.from d.address ≡ false = place_is c.args.follower.now d before c.args.from false h e in
    passed_by c.args.follower.now d before (Sent c.args.from c.args.to c.args.bytes.now) own h

pub returns-then-on_sent : goal.returns-then-on_sent
returns-then-on_sent c = λ d before sound h.
    let r : c.same_address.result ≡ true = search rules in
    let e : same_address c.args.from c.args.follower.now.desc.now.address ≡ true = ap (λ (k : Address). same_address c.args.from k) (sym c.address.ensures) ∙ sym c.same_address.ensures ∙ r in
    let own : same_address c.args.from d.address ≡ true = place_is c.args.follower.now d before c.args.from true h e in
    sent_followed c.args.follower.now c.on_sent.new.self d before c.args.from c.args.to c.args.bytes.now own true h (λ x event gone k. c.if-on_sent.ensures.within d x event gone sound k) (λ a. absurd (cc (c.if-on_sent.ensures.closed a)))

pub returns-else-on_sent : goal.returns-else-on_sent
returns-else-on_sent c = λ d before sound h.
    let r : c.same_address.result ≡ true = search rules in
    let e : same_address c.args.from c.args.follower.now.desc.now.address ≡ true = ap (λ (k : Address). same_address c.args.from k) (sym c.address.ensures) ∙ sym c.same_address.ensures ∙ r in
    let own : same_address c.args.from d.address ≡ true = place_is c.args.follower.now d before c.args.from true h e in
    sent_followed c.args.follower.now c.on_sent.new.self d before c.args.from c.args.to c.args.bytes.now own false h (λ x event gone k. c.if-on_sent.ensures.within d x event gone sound k) (λ a. refl)
