-- What one token of lookahead tells of each production: whether it may be empty, and the kinds that may begin it and go on after it.
use Rattle.std.specs.Prelude.{Bool, true, false, List, [], ◌∷◌}
use Rattle.grammar.specs.Lookahead.{Lookahead}
use Rattle.sql_grammar.specs.Kinds as k
use Rattle.sql_grammar.specs.Kinds.{Kind, among}
use Rattle.sql_grammar.specs.QueryGrammar.{Production, query, part, operand, block, item, from, entry, reference, expr, conj, neg, test, rest, value, term, unary, primary, agg}
use Rattle.sql_grammar.specs.QueryTails.{set_tail, and_tail, expr_tail, inner, in_inner}

abbrev pub some : Bool → List Kind → List Kind → Lookahead Kind
some nullable first last = record { nullable = nullable; first = among first; last = among last }

abbrev pub table : Production → Lookahead Kind
table query = some false
    (k.Select ∷ k.Open ∷ [])
    (k.And ∷ k.As ∷ k.Between ∷ k.Cross ∷ k.Except ∷ k.Group ∷ k.Having ∷ k.In ∷ k.Inner ∷ k.Intersect ∷ k.Join ∷ k.Like ∷ k.Not ∷
    k.Or ∷ k.Union ∷ k.Where ∷ k.Count ∷ k.Sum ∷ k.Avg ∷ k.Min ∷ k.Max ∷ k.Key ∷ k.View ∷ k.Index ∷ k.Word ∷ k.Quoted ∷ k.Open ∷
    k.Comma ∷ k.Dot ∷ k.Star ∷ k.Equals ∷ k.Differs ∷ k.Less ∷ k.AtMost ∷ k.Greater ∷ k.AtLeast ∷ k.Plus ∷ k.Minus ∷ k.Slash ∷
    k.Concat ∷ [])
table part = some false
    (k.Select ∷ k.Open ∷ [])
    (k.And ∷ k.As ∷ k.Between ∷ k.Cross ∷ k.Group ∷ k.Having ∷ k.In ∷ k.Inner ∷ k.Intersect ∷ k.Join ∷ k.Like ∷ k.Not ∷ k.Or ∷ k.Where ∷
    k.Count ∷ k.Sum ∷ k.Avg ∷ k.Min ∷ k.Max ∷ k.Key ∷ k.View ∷ k.Index ∷ k.Word ∷ k.Quoted ∷ k.Open ∷ k.Comma ∷ k.Dot ∷ k.Star ∷
    k.Equals ∷ k.Differs ∷ k.Less ∷ k.AtMost ∷ k.Greater ∷ k.AtLeast ∷ k.Plus ∷ k.Minus ∷ k.Slash ∷ k.Concat ∷ [])
table operand = some false
    (k.Select ∷ k.Open ∷ [])
    (k.And ∷ k.As ∷ k.Between ∷ k.Cross ∷ k.Group ∷ k.Having ∷ k.In ∷ k.Inner ∷ k.Join ∷ k.Like ∷ k.Not ∷ k.Or ∷ k.Where ∷ k.Count ∷
    k.Sum ∷ k.Avg ∷ k.Min ∷ k.Max ∷ k.Key ∷ k.View ∷ k.Index ∷ k.Word ∷ k.Quoted ∷ k.Open ∷ k.Comma ∷ k.Dot ∷ k.Star ∷ k.Equals ∷
    k.Differs ∷ k.Less ∷ k.AtMost ∷ k.Greater ∷ k.AtLeast ∷ k.Plus ∷ k.Minus ∷ k.Slash ∷ k.Concat ∷ [])
table block = some false
    (k.Select ∷ [])
    (k.And ∷ k.As ∷ k.Between ∷ k.Cross ∷ k.Group ∷ k.Having ∷ k.In ∷ k.Inner ∷ k.Join ∷ k.Like ∷ k.Not ∷ k.Or ∷ k.Where ∷ k.Count ∷
    k.Sum ∷ k.Avg ∷ k.Min ∷ k.Max ∷ k.Key ∷ k.View ∷ k.Index ∷ k.Word ∷ k.Quoted ∷ k.Open ∷ k.Comma ∷ k.Dot ∷ k.Star ∷ k.Equals ∷
    k.Differs ∷ k.Less ∷ k.AtMost ∷ k.Greater ∷ k.AtLeast ∷ k.Plus ∷ k.Minus ∷ k.Slash ∷ k.Concat ∷ [])
table item = some false
    (k.Exists ∷ k.Not ∷ k.Count ∷ k.Sum ∷ k.Avg ∷ k.Min ∷ k.Max ∷ k.Key ∷ k.View ∷ k.Index ∷ k.Word ∷ k.Quoted ∷ k.Number ∷ k.Text ∷
    k.Open ∷ k.Star ∷ k.Minus ∷ [])
    (k.And ∷ k.As ∷ k.Between ∷ k.In ∷ k.Like ∷ k.Not ∷ k.Or ∷ k.Count ∷ k.Sum ∷ k.Avg ∷ k.Min ∷ k.Max ∷ k.Key ∷ k.View ∷ k.Index ∷
    k.Word ∷ k.Quoted ∷ k.Open ∷ k.Dot ∷ k.Star ∷ k.Equals ∷ k.Differs ∷ k.Less ∷ k.AtMost ∷ k.Greater ∷ k.AtLeast ∷ k.Plus ∷ k.Minus ∷
    k.Slash ∷ k.Concat ∷ [])
table from = some false
    (k.Count ∷ k.Sum ∷ k.Avg ∷ k.Min ∷ k.Max ∷ k.Key ∷ k.View ∷ k.Index ∷ k.Word ∷ k.Quoted ∷ k.Open ∷ [])
    (k.And ∷ k.As ∷ k.Between ∷ k.Cross ∷ k.In ∷ k.Inner ∷ k.Join ∷ k.Like ∷ k.Not ∷ k.Or ∷ k.Count ∷ k.Sum ∷ k.Avg ∷ k.Min ∷ k.Max ∷
    k.Key ∷ k.View ∷ k.Index ∷ k.Word ∷ k.Quoted ∷ k.Open ∷ k.Dot ∷ k.Star ∷ k.Equals ∷ k.Differs ∷ k.Less ∷ k.AtMost ∷ k.Greater ∷
    k.AtLeast ∷ k.Plus ∷ k.Minus ∷ k.Slash ∷ k.Concat ∷ [])
table entry = some false
    (k.Count ∷ k.Sum ∷ k.Avg ∷ k.Min ∷ k.Max ∷ k.Key ∷ k.View ∷ k.Index ∷ k.Word ∷ k.Quoted ∷ k.Open ∷ [])
    (k.As ∷ k.Count ∷ k.Sum ∷ k.Avg ∷ k.Min ∷ k.Max ∷ k.Key ∷ k.View ∷ k.Index ∷ k.Word ∷ k.Quoted ∷ [])
table reference = some false
    (k.Count ∷ k.Sum ∷ k.Avg ∷ k.Min ∷ k.Max ∷ k.Key ∷ k.View ∷ k.Index ∷ k.Word ∷ k.Quoted ∷ [])
    (k.Dot ∷ [])
table expr = some false
    (k.Exists ∷ k.Not ∷ k.Count ∷ k.Sum ∷ k.Avg ∷ k.Min ∷ k.Max ∷ k.Key ∷ k.View ∷ k.Index ∷ k.Word ∷ k.Quoted ∷ k.Number ∷ k.Text ∷
    k.Open ∷ k.Minus ∷ [])
    (k.And ∷ k.Between ∷ k.In ∷ k.Like ∷ k.Not ∷ k.Or ∷ k.Open ∷ k.Dot ∷ k.Star ∷ k.Equals ∷ k.Differs ∷ k.Less ∷ k.AtMost ∷ k.Greater ∷
    k.AtLeast ∷ k.Plus ∷ k.Minus ∷ k.Slash ∷ k.Concat ∷ [])
table conj = some false
    (k.Exists ∷ k.Not ∷ k.Count ∷ k.Sum ∷ k.Avg ∷ k.Min ∷ k.Max ∷ k.Key ∷ k.View ∷ k.Index ∷ k.Word ∷ k.Quoted ∷ k.Number ∷ k.Text ∷
    k.Open ∷ k.Minus ∷ [])
    (k.And ∷ k.Between ∷ k.In ∷ k.Like ∷ k.Not ∷ k.Open ∷ k.Dot ∷ k.Star ∷ k.Equals ∷ k.Differs ∷ k.Less ∷ k.AtMost ∷ k.Greater ∷
    k.AtLeast ∷ k.Plus ∷ k.Minus ∷ k.Slash ∷ k.Concat ∷ [])
table neg = some false
    (k.Exists ∷ k.Not ∷ k.Count ∷ k.Sum ∷ k.Avg ∷ k.Min ∷ k.Max ∷ k.Key ∷ k.View ∷ k.Index ∷ k.Word ∷ k.Quoted ∷ k.Number ∷ k.Text ∷
    k.Open ∷ k.Minus ∷ [])
    (k.Between ∷ k.In ∷ k.Like ∷ k.Not ∷ k.Open ∷ k.Dot ∷ k.Star ∷ k.Equals ∷ k.Differs ∷ k.Less ∷ k.AtMost ∷ k.Greater ∷ k.AtLeast ∷
    k.Plus ∷ k.Minus ∷ k.Slash ∷ k.Concat ∷ [])
table test = some false
    (k.Exists ∷ k.Count ∷ k.Sum ∷ k.Avg ∷ k.Min ∷ k.Max ∷ k.Key ∷ k.View ∷ k.Index ∷ k.Word ∷ k.Quoted ∷ k.Number ∷ k.Text ∷ k.Open ∷
    k.Minus ∷ [])
    (k.Between ∷ k.In ∷ k.Like ∷ k.Not ∷ k.Open ∷ k.Dot ∷ k.Star ∷ k.Equals ∷ k.Differs ∷ k.Less ∷ k.AtMost ∷ k.Greater ∷ k.AtLeast ∷
    k.Plus ∷ k.Minus ∷ k.Slash ∷ k.Concat ∷ [])
table rest = some false
    (k.Between ∷ k.In ∷ k.Like ∷ k.Not ∷ k.Equals ∷ k.Differs ∷ k.Less ∷ k.AtMost ∷ k.Greater ∷ k.AtLeast ∷ [])
    (k.Open ∷ k.Dot ∷ k.Star ∷ k.Plus ∷ k.Minus ∷ k.Slash ∷ k.Concat ∷ [])
table value = some false
    (k.Count ∷ k.Sum ∷ k.Avg ∷ k.Min ∷ k.Max ∷ k.Key ∷ k.View ∷ k.Index ∷ k.Word ∷ k.Quoted ∷ k.Number ∷ k.Text ∷ k.Open ∷ k.Minus ∷ [])
    (k.Open ∷ k.Dot ∷ k.Star ∷ k.Plus ∷ k.Minus ∷ k.Slash ∷ k.Concat ∷ [])
table term = some false
    (k.Count ∷ k.Sum ∷ k.Avg ∷ k.Min ∷ k.Max ∷ k.Key ∷ k.View ∷ k.Index ∷ k.Word ∷ k.Quoted ∷ k.Number ∷ k.Text ∷ k.Open ∷ k.Minus ∷ [])
    (k.Open ∷ k.Dot ∷ k.Star ∷ k.Slash ∷ [])
table unary = some false
    (k.Count ∷ k.Sum ∷ k.Avg ∷ k.Min ∷ k.Max ∷ k.Key ∷ k.View ∷ k.Index ∷ k.Word ∷ k.Quoted ∷ k.Number ∷ k.Text ∷ k.Open ∷ k.Minus ∷ [])
    (k.Open ∷ k.Dot ∷ [])
table primary = some false
    (k.Count ∷ k.Sum ∷ k.Avg ∷ k.Min ∷ k.Max ∷ k.Key ∷ k.View ∷ k.Index ∷ k.Word ∷ k.Quoted ∷ k.Number ∷ k.Text ∷ k.Open ∷ [])
    (k.Open ∷ k.Dot ∷ [])
table agg = some false
    (k.Count ∷ k.Sum ∷ k.Avg ∷ k.Min ∷ k.Max ∷ [])
    ([])
table set_tail = some true
    (k.Except ∷ k.Intersect ∷ k.Union ∷ [])
    (k.And ∷ k.As ∷ k.Between ∷ k.Cross ∷ k.Except ∷ k.Group ∷ k.Having ∷ k.In ∷ k.Inner ∷ k.Intersect ∷ k.Join ∷ k.Like ∷ k.Not ∷
    k.Or ∷ k.Union ∷ k.Where ∷ k.Count ∷ k.Sum ∷ k.Avg ∷ k.Min ∷ k.Max ∷ k.Key ∷ k.View ∷ k.Index ∷ k.Word ∷ k.Quoted ∷ k.Open ∷
    k.Comma ∷ k.Dot ∷ k.Star ∷ k.Equals ∷ k.Differs ∷ k.Less ∷ k.AtMost ∷ k.Greater ∷ k.AtLeast ∷ k.Plus ∷ k.Minus ∷ k.Slash ∷
    k.Concat ∷ [])
table and_tail = some true
    (k.And ∷ k.Or ∷ [])
    (k.And ∷ k.Between ∷ k.In ∷ k.Like ∷ k.Not ∷ k.Or ∷ k.Open ∷ k.Dot ∷ k.Star ∷ k.Equals ∷ k.Differs ∷ k.Less ∷ k.AtMost ∷ k.Greater ∷
    k.AtLeast ∷ k.Plus ∷ k.Minus ∷ k.Slash ∷ k.Concat ∷ [])
table expr_tail = some true
    (k.And ∷ k.Between ∷ k.In ∷ k.Like ∷ k.Not ∷ k.Or ∷ k.Star ∷ k.Equals ∷ k.Differs ∷ k.Less ∷ k.AtMost ∷ k.Greater ∷ k.AtLeast ∷
    k.Plus ∷ k.Minus ∷ k.Slash ∷ k.Concat ∷ [])
    (k.And ∷ k.Between ∷ k.In ∷ k.Like ∷ k.Not ∷ k.Or ∷ k.Open ∷ k.Dot ∷ k.Star ∷ k.Equals ∷ k.Differs ∷ k.Less ∷ k.AtMost ∷ k.Greater ∷
    k.AtLeast ∷ k.Plus ∷ k.Minus ∷ k.Slash ∷ k.Concat ∷ [])
table inner = some false
    (k.Exists ∷ k.Not ∷ k.Select ∷ k.Count ∷ k.Sum ∷ k.Avg ∷ k.Min ∷ k.Max ∷ k.Key ∷ k.View ∷ k.Index ∷ k.Word ∷ k.Quoted ∷ k.Number ∷
    k.Text ∷ k.Open ∷ k.Minus ∷ [])
    (k.And ∷ k.As ∷ k.Between ∷ k.Cross ∷ k.Except ∷ k.Group ∷ k.Having ∷ k.In ∷ k.Inner ∷ k.Intersect ∷ k.Join ∷ k.Like ∷ k.Not ∷
    k.Or ∷ k.Union ∷ k.Where ∷ k.Count ∷ k.Sum ∷ k.Avg ∷ k.Min ∷ k.Max ∷ k.Key ∷ k.View ∷ k.Index ∷ k.Word ∷ k.Quoted ∷ k.Open ∷
    k.Comma ∷ k.Dot ∷ k.Star ∷ k.Equals ∷ k.Differs ∷ k.Less ∷ k.AtMost ∷ k.Greater ∷ k.AtLeast ∷ k.Plus ∷ k.Minus ∷ k.Slash ∷
    k.Concat ∷ [])
table in_inner = some false
    (k.Exists ∷ k.Not ∷ k.Select ∷ k.Count ∷ k.Sum ∷ k.Avg ∷ k.Min ∷ k.Max ∷ k.Key ∷ k.View ∷ k.Index ∷ k.Word ∷ k.Quoted ∷ k.Number ∷
    k.Text ∷ k.Open ∷ k.Minus ∷ [])
    (k.And ∷ k.As ∷ k.Between ∷ k.Cross ∷ k.Except ∷ k.Group ∷ k.Having ∷ k.In ∷ k.Inner ∷ k.Intersect ∷ k.Join ∷ k.Like ∷ k.Not ∷
    k.Or ∷ k.Union ∷ k.Where ∷ k.Count ∷ k.Sum ∷ k.Avg ∷ k.Min ∷ k.Max ∷ k.Key ∷ k.View ∷ k.Index ∷ k.Word ∷ k.Quoted ∷ k.Open ∷
    k.Comma ∷ k.Dot ∷ k.Star ∷ k.Equals ∷ k.Differs ∷ k.Less ∷ k.AtMost ∷ k.Greater ∷ k.AtLeast ∷ k.Plus ∷ k.Minus ∷ k.Slash ∷
    k.Concat ∷ [])
