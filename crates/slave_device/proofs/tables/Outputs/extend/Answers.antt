use Rattle.std.proofs.Common.{refl, ap, ◌∙◌}
use Rattle.dcp_types.specs.declared.error_codes.ErrorCode.TheVariants.{Position}
use Rattle.slave_spec.specs.Refusals.{refused_unless}
use Rattle.slave_device.proofs.Wires.Finding.{port_of, no_port_of}
use Rattle.slave_device.proofs.Wires.Sending.{known_at, no_port, judged_at, count_at, extended}
use Rattle.slave_device.proofs.tables.Outputs.extend.Goals as goal

pub returns-in_default : goal.returns-in_default
returns-in_default c = λ d changes h.
    (no_port d changes _ _ _ (known_at d changes c.args.self.now _ _ h c.requires) (no_port_of _ _ _ (c.as_slice.ensures.value ∙ h.listed) c.in_default.ensures), h)

pub returns-then-not-is_next : goal.returns-then-not-is_next
returns-then-not-is_next c = λ d changes h. (
  judged_at d changes _ _ _ _ c.in-Some.place _ (known_at d changes c.args.self.now _ _ h c.requires)
      (port_of _ _ _ _ (c.as_slice.ensures.value ∙ h.listed) c.in-Some.ensures)
      (c.len.ensures ∙ count_at d changes c.args.self.now _ c.args.i c.index.result.now h c.requires c.index.ensures) c.is_next.ensures
      ∙ ap (λ b. refused_unless b Position) c.if-not-is_next.true,
  h,
)

pub returns : goal.returns
returns c = λ d changes h.
    let port = port_of _ _ _ _ (c.as_slice.ensures.value ∙ h.listed) c.in-Some.ensures in (
      judged_at d changes _ _ _ _ c.in-Some.place _ (known_at d changes c.args.self.now _ _ h c.requires)
          port (c.len.ensures ∙ count_at d changes c.args.self.now _ c.args.i c.index.result.now h c.requires c.index.ensures) c.is_next.ensures
          ∙ ap (λ b. refused_unless b Position) c.if-not-is_next.false,
      extended d changes c.args.self.now _ _ c.args.i _ _ c.index_mut.result.now _ c.in-Some.place h c.requires port c.index_mut.ensures.value c.push.ensures refl refl refl,
    )
