use Rattle.std.proofs.Common.{rules, ◌≡◌, Ok}
use Rattle.std.proofs.lemmas.Fmt.{parse-decimal}
use Rattle.udp_start.proofs.words.budget.Goals as goal

pub returns-in_default : goal.returns-in_default
returns-in_default c n fits is =
    let e : c.parse.result ≡ Ok n = parse-decimal 64 n c.args.word.now c.parse.result fits.1 fits.1 is c.parse.ensures.value.0 in
    search rules

pub returns-in_default-2 : goal.returns-in_default-2
returns-in_default-2 c n fits is =
    let e : c.parse.result ≡ Ok n = parse-decimal 64 n c.args.word.now c.parse.result fits.1 fits.1 is c.parse.ensures.value.0 in
    search rules

pub returns-in_default-3 : goal.returns-in_default-3
returns-in_default-3 c n fits is =
    let e : c.parse.result ≡ Ok n = parse-decimal 64 n c.args.word.now c.parse.result fits.1 fits.1 is c.parse.ensures.value.0 in
    search rules
