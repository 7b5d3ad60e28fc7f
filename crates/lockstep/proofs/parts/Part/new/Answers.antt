use Rattle.std.proofs.Common.{◌≡◌, List, length, map, ap, ◌∙◌, sym, ℤ, Ok}
use Rattle.dcp_types.specs.declared.data_types.DataType.{DataType}
use Rattle.fixed_models.specs.Steps.{start}
use Rattle.fixed_models.specs.Views.{View, accepts}
use Rattle.slave_desc.specs.declared.ports.Port.{Port}
use Rattle.scenario.specs.Settings.{parameters}
use Rattle.lockstep.specs.Feeds.{feeds_of}
use Rattle.lockstep.specs.Parts.{types_of_outputs}
use Rattle.lockstep.proofs.Due.{accepted}
use Rattle.lockstep.proofs.parts.Part.new.Goals as goal

pub begin-requires : goal.begin-requires
begin-requires c =
    let sc = c.args.scenario.now in
    let d = c.args.desc.now in
    let ps : c.as_slice-3.result.now ≡ parameters sc c.args.slave d c.args.run = c.as_slice-3.ensures.value ∙ c.in_ok-parameters.ensures in
    let ts : c.as_slice-4.result.now ≡ types_of_outputs d = c.as_slice-4.ensures.value ∙ c.in_ok-types.ensures ∙ ap (λ (x : List Port). map (λ p. p.kind) x) c.as_slice.ensures in
    ap (λ (x : List ℤ). accepts d.kind x (length c.as_slice-4.result.now)) ps
    ∙ ap (λ (x : List DataType). accepts d.kind (parameters sc c.args.slave d c.args.run) (length x)) ts
    ∙ accepted sc c.args.slave c.args.run d c.requires.scenario c.requires.slave c.requires.number c.requires.desc c.requires.model

pub returns : goal.returns
returns c rows =
    let sc = c.args.scenario.now in
    let d = c.args.desc.now in
    let ps : c.as_slice-3.result.now ≡ parameters sc c.args.slave d c.args.run = c.as_slice-3.ensures.value ∙ c.in_ok-parameters.ensures in
    let ts : c.as_slice-4.result.now ≡ types_of_outputs d = c.as_slice-4.ensures.value ∙ c.in_ok-types.ensures ∙ ap (λ (x : List Port). map (λ p. p.kind) x) c.as_slice.ensures in
    let is = c.in_ok-model.ensures in
    record {
      kind = ap (λ (v : View). v.kind) is;
      types = ap (λ (v : View). v.types) is ∙ ts;
      feeds = c.in_ok-feeds.ensures ∙ ap (λ (x : List Port). feeds_of sc c.args.slave (length x)) c.as_slice-2.ensures;
      parameters = ap (λ (v : View). v.parameters) is ∙ ps;
      state = sym (ap (λ (v : View). Ok v.state) is ∙ ap (λ (x : List ℤ). Ok (start d.kind x)) ps);
    }
