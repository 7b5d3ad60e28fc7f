use Rattle.std.proofs.Common.{◌≡◌, ◌+◌, ◌*◌, ◌^◌, arith, add-one}
use Rattle.std.proofs.Math.Nat.{pow-suc}
use Rattle.std.proofs.lemmas.Int.Digits.{digits_value_more}
use Rattle.text_lines.proofs.Digits.{digit_at}
use Rattle.text_lines.proofs.numbers.value.Goals as goal

pub loop-digit-preserved : goal.loop-digit-preserved
loop-digit-preserved c =
    let w = c.args.word.now in
    let i = c.loop-digit.digit-index in
    let d = digit_at w i c.requires.digits c.loop-digit-test.true in
    let more = digits_value_more 10 w i c.loop-digit-test.true in
    let power : 10 ^ (i + 1) ≡ 10 ^ i * 10 = rw add-one (pow-suc 10 i) in
    record { value = omega (arith, more, d.2); small = omega (arith, power, d.1) }
