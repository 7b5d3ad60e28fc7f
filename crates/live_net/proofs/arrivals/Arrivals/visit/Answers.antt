use Rattle.std.proofs.Common.{◌∙◌, refl, ◌<◌, length, vec_len, arith, rules}
use Rattle.std.proofs.lemmas.Option.{slice_get_read}
use Rattle.live_net.specs.declared.connections.Heard.TheVariants.{Later, Over}
use Rattle.live_net.proofs.Hearing.{handed_out}
use Rattle.live_net.proofs.arrivals.Arrivals.visit.Goals as goal

pub returns-in-Gram-clause-handed : goal.returns-in-Gram-clause-handed
returns-in-Gram-clause-handed c =
    let some : 0 < vec_len c.args.self.now.connections = search rules in
    let here : c.turn-turn.result < length c.args.self.now.connections.items = omega (arith, c.args.self.now.connections.ok.0, c.turn-turn.ensures.within some) in
    handed_out c.args.all.now c.args.self.now.connections.items c.turn-turn.result c.put_front-len.result c.hear.new.self c.in-Gram.from c.put_front-len.new.room here c.in-Gram.ensures.message
    (c.put_front-len.ensures.front ∙ c.message.ensures)

pub returns-in-Later-clause-visits : goal.returns-in-Later-clause-visits
returns-in-Later-clause-visits c = λ some.
    let here : c.turn-turn.result < length c.args.self.now.connections.items = omega (arith, c.args.self.now.connections.ok.0, c.turn-turn.ensures.within some) in
    rw (← c.turn-turn.ensures.turn)
    (record {
      before = c.index_mut-connection.result.now;
      asked = c.hear.new.self;
      heard = Later;
      here = slice_get_read c.args.self.now.connections.items (length c.args.self.now.connections.items) c.turn-turn.result c.index_mut-connection.result.now refl here c.index_mut-connection.ensures.value;
      hears = c.in-Later.ensures.hears;
      heeds = (refl, refl);
    })

pub returns-in-Over-clause-visits : goal.returns-in-Over-clause-visits
returns-in-Over-clause-visits c = λ some.
    let here : c.turn-turn.result < length c.args.self.now.connections.items = omega (arith, c.args.self.now.connections.ok.0, c.turn-turn.ensures.within some) in
    rw (← c.turn-turn.ensures.turn)
    (record {
      before = c.index_mut-connection.result.now;
      asked = c.hear.new.self;
      heard = Over;
      here = slice_get_read c.args.self.now.connections.items (length c.args.self.now.connections.items) c.turn-turn.result c.index_mut-connection.result.now refl here c.index_mut-connection.ensures.value;
      hears = c.in-Over.ensures.hears;
      heeds = (refl, c.remove.ensures.items);
    })
