-- Names of rules fit.
use Rattle.std.proofs.Common.{ℕ, ◌<◌, ◌≤◌, ◌++◌, ◌^◌, length, List, decimal, arith}
use Rattle.std.specs.Prelude.{codes}
use Rattle.std.proofs.lemmas.Fmt.{length-decimal-le}
use Rattle.std.proofs.lemmas.List.{length-append}
use Rattle.pcrf_values.specs.Limits.{rule_name_limit}
use Rattle.pcrf_model.specs.Flows.{flow_rule_name}
use Rattle.pcc_rules.specs.FlowsAlone.{flow_of}

-- a number of 32 bits has at most ten digits
ten_digits : (n : ℕ) → n < 2 ^ 32 → length (decimal n) ≤ 10
ten_digits n h = length-decimal-le 10 n (omega (arith)) (omega (arith, h)) (omega (arith, h))

-- a Session-Id and two numbers fit the name of a rule
pub flow_name_fits : (id : List ℕ) (c n : ℕ) → length id ≤ 512 → c < 2 ^ 32 → n < 2 ^ 32 → length (flow_rule_name (flow_of id c n)) ≤ rule_name_limit
flow_name_fits id c n w hc hn =
    let dc = ten_digits c hc in
    let dn = ten_digits n hn in
    let a = length-append (codes "af/") id in
    let b = length-append (codes "af/" ++ id) (codes "/") in
    let d = length-append (codes "af/" ++ id ++ codes "/") (decimal c) in
    let e = length-append (codes "af/" ++ id ++ codes "/" ++ decimal c) (codes "/") in
    let f = length-append (codes "af/" ++ id ++ codes "/" ++ decimal c ++ codes "/") (decimal n) in
    omega (arith, w, dc, dn, a, b, d, e, f)
