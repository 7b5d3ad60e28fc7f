use Rattle.std.proofs.Common.{◌≡◌, ◌<◌, ◌≤◌, ◌++◌, ◌∷◌, [], List, length, take, ℤ, ap, sym, ◌∙◌, arith, append_assoc}
use Rattle.std.proofs.lemmas.Int.{to_z-of_z}
use Rattle.lockstep.specs.Cut.{Grid}
use Rattle.lockstep.proofs.Showing.{values, show_more, show_stop, show_all}
use Rattle.lockstep.proofs.Filled.{put_rows}
use Rattle.lockstep.proofs.parts.show.Goals as goal

pub returns-in-Err-clause-shown : goal.returns-in-Err-clause-shown
returns-in-Err-clause-shown c =
    let lt : c.loop-port.port < length c.args.model.now.types = omega (arith, c.requires.outputs) in
    show_stop c.args.model.now c.loop-port.port c.in-Err.code c.requires.types lt c.in-Err.ensures.value c.loop-port.invariant.fits

pub loop-port-preserved : goal.loop-port-preserved
loop-port-preserved c =
    let v = c.args.model.now in
    let lt : c.loop-port.port < length v.types = omega (arith, c.requires.outputs) in
    let more = show_more v c.loop-port.port c.in-Ok.value c.requires.types lt c.in-Ok.ensures.value c.loop-port.invariant.fits in
    let put = c.in_ok-put-in-Ok.ensures.added in
    let shown : c.put.new.self.begun ≡ c.loop-port.rows.begun ++ c.in-Ok.value ∷ [] = grind (arith, to_z-of_z, ap (λ (x : Grid). x.begun) put) in
    record {
      begun =
          shown
          ∙ ap (λ (x : List ℤ). x ++ c.in-Ok.value ∷ []) c.loop-port.invariant.begun
          ∙ append_assoc c.args.rows.now.begun (take c.loop-port.port (values v)) (c.in-Ok.value ∷ [])
          ∙ ap (λ (x : List ℤ). c.args.rows.now.begun ++ x) (sym more.0);
      fits = more.1;
      kept = put_rows c.args.rows.now c.loop-port.rows c.put.new.self _ c.loop-port.invariant.kept put;
    }

pub returns-clause-shown : goal.returns-clause-shown
returns-clause-shown c =
    let v = c.args.model.now in
    let le : length v.types ≤ c.loop-port.port = omega (arith, c.requires.outputs) in
    let all = show_all v c.loop-port.port c.requires.types le c.loop-port.invariant.fits in
    (values v, all.1, c.loop-port.invariant.begun ∙ ap (λ (x : List ℤ). c.args.rows.now.begun ++ x) all.0)
