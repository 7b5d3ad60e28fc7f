use Rattle.std.proofs.Common.{◌≡◌, ◌+◌, ◌^◌, ◌<◌, ◌++◌, List, length, map, ap, sym, ◌∙◌, arith}
use Rattle.std.specs.Option.{option_to_list}
use Rattle.dcp_types.specs.declared.addresses.Address.{Address}
use Rattle.net_world.specs.declared.deliveries.Arrival.{Arrival}
use Rattle.net_world.specs.Deliveries.{all_placed, delivery, lags}
use Rattle.net_world.specs.Lags.{lags_in}
use Rattle.net_world.specs.Mailboxes.{queue_of}
use Rattle.net_world.proofs.TiedSteps.{few_counted, lags_told, listed, tied_sent, whole}
use Rattle.net_world.proofs.traffics.Traffic.send.Goals as goal

pub count-requires-clause-few : goal.count-requires-clause-few
count-requires-clause-few c =
    rw c.deref_mut-2.ensures.value (few_counted _ _ _ _ _ _ c.self.invariant (omega arith))

pub invariant_of-self-2 : goal.invariant_of-self-2
invariant_of-self-2 c =
    let o = c.self.inside.opening in
    let calls = c.self.inside.history.calls in
    let told = lags_told _ _ _ _ _ _ c.self.invariant c.args.from c.args.bytes.now (lags_in c.lags_now-lags.result) (rw c.deref.ensures.value at c.lags_now-lags.ensures) in
    let before = λ (a : Address). ap (queue_of a) c.deref_mut.ensures.value ∙ c.room_for.ensures.same a in
    let ds : List Arrival = option_to_list c.in_ok-first.first ++ option_to_list c.in_ok-second.second in
    let is : ds ≡ map (delivery (c.self.inside.sent + 1) c.args.from c.args.to c.args.bytes.now) (lags o calls c.args.from c.args.bytes.now) =
    rw (c.in_ok-first.ensures, c.in_ok-second.ensures)
    (sym (listed (delivery (c.self.inside.sent + 1) c.args.from c.args.to c.args.bytes.now) c.lags_now-lags.result.first c.lags_now-lags.result.second)
    ∙ ap (map (delivery (c.self.inside.sent + 1) c.args.from c.args.to c.args.bytes.now)) told) in
    let tied = tied_sent _ _ _ _ _ _ c.self.invariant c.args.from c.args.to c.args.bytes.now c.post.new.boxes ds (omega arith) is (c.post.ensures.after ∙ ap (all_placed ds) (before c.args.to))
    (λ a other. c.post.ensures.others a other ∙ before a) in
    let watches : c.self.inside.watches.len ≡ length c.count.new.watches = omega (arith, c.count.auto.watches, c.deref_mut-2.ensures.len) in
    let boxes : c.room_for.new.boxes.len ≡ length c.post.new.boxes = omega (arith, c.post.auto.boxes, c.deref_mut.ensures.len) in
    rw (whole _ _ _ watches, whole _ _ _ boxes, c.count.ensures, c.deref_mut-2.ensures.value, c.as_slice.ensures, c.after_message-self-inside.ensures, c.then-self-inside.ensures) tied
