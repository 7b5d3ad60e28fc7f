use Rattle.std.proofs.Common.{List, ℕ, append_assoc, sym, subst}
use Rattle.std.proofs.lemmas.Grind.{flat_map-append}
use Rattle.desc_text.specs.Reads.{ReadsAsDesc}
use Rattle.desc_text.proofs.RoundTrip.{canonical_reads}
use Rattle.desc_text.proofs.printing.print_desc.Goals as goal

pub returns-clause-text : goal.returns-clause-text
returns-clause-text c = rw (c.in_ok-put_ports-2.ensures, c.in_ok-put_ports.ensures, c.in_ok-put_resolution.ensures, c.in_ok-put_heartbeat.ensures, c.in_ok-put_busy.ensures, c.in_ok-put_model.ensures, c.in_ok-put_address.ensures, c.in_ok-put_uuid.ensures, c.in_ok-put_name.ensures, c.new-out.ensures.bytes, c.as_str.ensures, c.as_slice.ensures, c.as_slice-2.ensures, c.as_slice-3.ensures) (simp (append_assoc, flat_map-append))

pub returns-clause-back : goal.returns-clause-back
returns-clause-back c = λ h. subst (λ (t : List ℕ). ReadsAsDesc t c.args.desc.now) (sym (returns-clause-text c)) (canonical_reads c.args.desc.now h)
