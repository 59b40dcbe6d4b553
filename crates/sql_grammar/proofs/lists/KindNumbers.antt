-- The number of a kind is that of its variant.
use Rattle.std.proofs.Common.{◌≡◌, refl}
use denote.Enum.Declared.{tag_of}
use Rattle.sql_grammar.specs.contracts.kinds.Kind.{the_type}
use Rattle.sql_grammar.specs.Kinds as k
use Rattle.sql_grammar.specs.Kinds.{Kind, number}

pub tag_is_number : (kind : Kind) → tag_of the_type kind ≡ number kind
tag_is_number k.All = refl
tag_is_number other = refl
