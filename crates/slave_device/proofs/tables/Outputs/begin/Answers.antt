use Rattle.std.proofs.Common.{refl, ap, ◌∙◌, arith, List, [], ◌∷◌, ◌++◌, None}
use Rattle.std.proofs.lemmas.Grind.{common_steps}
use Rattle.dcp_types.specs.declared.error_codes.ErrorCode.TheVariants.{Position}
use Rattle.slave_spec.specs.Refusals.{refused_unless}
use Rattle.slave_device.specs.declared.places.PortPlace.{PortPlace}
use Rattle.slave_device.proofs.Wires.Finding.{port_of, no_port_of}
use Rattle.slave_device.proofs.Wires.Sending.{full_at, room_at, no_port, judged_at, none_at, begun}
use Rattle.slave_device.proofs.tables.Outputs.begin.Goals as goal

pub returns-then-len-ge-IDS : goal.returns-then-len-ge-IDS
returns-then-len-ge-IDS c = λ d changes h. (full_at d changes c.args.self.now _ _ _ _ h c.requires (omega arith), h)

pub returns-in_default : goal.returns-in_default
returns-in_default c = λ d changes h.
    (no_port d changes _ _ _ (room_at d changes c.args.self.now _ _ h c.requires (omega arith)) (no_port_of _ _ _ (c.as_slice.ensures.value ∙ h.listed) c.in_default.ensures), h)

pub returns-then-not-is_next : goal.returns-then-not-is_next
returns-then-not-is_next c = λ d changes h. (
  judged_at d changes _ _ _ 0 c.in-Some.place _ (room_at d changes c.args.self.now _ _ h c.requires (omega arith))
      (port_of _ _ _ _ (c.as_slice.ensures.value ∙ h.listed) c.in-Some.ensures) (none_at d changes c.args.self.now _ _ h c.requires) c.is_next.ensures
      ∙ ap (λ b. refused_unless b Position) c.if-not-is_next.true,
  h,
)

pub returns : goal.returns
returns c = λ d changes h.
    let port = port_of _ _ _ _ (c.as_slice.ensures.value ∙ h.listed) c.in-Some.ensures in (
      judged_at d changes _ _ _ 0 c.in-Some.place _ (room_at d changes c.args.self.now _ _ h c.requires (omega arith))
          port (none_at d changes c.args.self.now _ _ h c.requires) c.is_next.ensures
          ∙ ap (λ b. refused_unless b Position) c.if-not-is_next.false,
      begun d changes c.args.self.now _ _ _ _ _ (record { places = c.push.new.self; target = None; interval = 1; base = 0 }) c.in-Some.place h c.requires port
          (c.push.ensures ∙ ap (λ (l : List PortPlace). l ++ c.in-Some.place ∷ []) c.new-places.ensures) refl refl refl refl c.insert.ensures (grind (arith, common_steps)),
    )
