use Rattle.std.proofs.Common.{◌≡◌, inl, rules, arith, string_bytes, codes}
use Rattle.udp_run.proofs.Forms.{check_of}
use Rattle.udp_run.proofs.top.find_verdict.Goals as goal

pub returns-in-len3 : goal.returns-in-len3
returns-in-len3 g c =
    let verb : string_bytes c.verb-item.result ≡ codes "check" = search rules in
    inl (
      string_bytes c.case-item.result,
      string_bytes c.proof-item.result,
      check_of c.args.words.now _ _ _ (omega arith) c.verb-item.is c.case-item.is c.proof-item.is verb,
      search rules,
    )
