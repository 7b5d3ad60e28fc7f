use Rattle.std.proofs.Common.{◌≡◌, true, false, rules}
use Rattle.dcp_ends.specs.Events.{Send}
use Rattle.conform.specs.Asking.{is_entries}
use Rattle.conform.proofs.Answering.{listed_sent, entries_sent, not_sent, is_meant, is_not_meant}
use Rattle.conform.proofs.followers.Follower.on_answer.Goals as goal

pub returns-in-Some : goal.returns-in-Some
returns-in-Some c = λ d x event from r t w.
    let s : Send = record { to = c.args.to; bytes = c.args.bytes.now } in
    listed_sent c.args.self.now _ c.args.meaning d x event from r t w s c.in-Some.i c.in-Some.ensures.some.0 c.settle.ensures

pub returns-then-not-is_entries : goal.returns-then-not-is_entries
returns-then-not-is_entries c = λ d x event from r t w.
    let s : Send = record { to = c.args.to; bytes = c.args.bytes.now } in
    let e : is_entries c.args.meaning ≡ false = search rules in
    not_sent c.args.self.now c.args.self.now c.args.meaning d x event from r t w s c.in-None.ensures.none (λ m head h b. is_not_meant c.args.meaning e m)

pub returns-then-not-is_begun : goal.returns-then-not-is_begun
returns-then-not-is_begun c = λ d x event from r t w.
    let s : Send = record { to = c.args.to; bytes = c.args.bytes.now } in
    not_sent c.args.self.now c.args.self.now c.args.meaning d x event from r t w s c.in-None.ensures.none (λ m head h b. c.if-not-is_begun.ensures.begins head h b)

pub returns-else-not-is_begun : goal.returns-else-not-is_begun
returns-else-not-is_begun c = λ d x event from r t w.
    let s : Send = record { to = c.args.to; bytes = c.args.bytes.now } in
    let e : is_entries c.args.meaning ≡ true = search rules in
    entries_sent c.args.self.now _ c.args.meaning d x event from r t w s (is_meant c.args.meaning e) (λ head h. c.if-not-is_begun.ensures.begins head h) c.settle-in-None.ensures
