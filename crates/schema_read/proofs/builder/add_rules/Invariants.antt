use Rattle.std.proofs.Common.{◌≡◌, take, drop}
use Rattle.std.specs.List.{list_any}
use Rattle.schema_read.specs.Order.{first_along}
use Rattle.schema_read.specs.Faults.{is_primary_rule, rule_fault, rules_fault}
use Rattle.schema_read.specs.Building.{after_rules}
use Rattle.schema_read.specs.Known.{AreKnown}
use Rattle.schema_read.proofs.builder.add_rules.Given as goal

abbrev pub invariant-loop-rule : goal.invariant-loop-rule
invariant-loop-rule l = record {
  fault : first_along (λ earlier r. rule_fault l.relations.entries l.name l.own (list_any is_primary_rule earlier) r) (take l.rule-index l.rules) (drop l.rule-index l.rules)
      ≡ rules_fault l.relations.entries l.name l.own l.rules;
  fkeys : l.fkeys ≡ after_rules l.relations.entries l.name l.own l.initial.fkeys (take l.rule-index l.rules);
  known : AreKnown l.relations.entries l.name l.own l.known.entries;
  has_primary : l.has_primary ≡ list_any is_primary_rule (take l.rule-index l.rules);
}
