-- The kinds of tokens that the grammar tells apart.
use Rattle.std.specs.Prelude.{ℕ, ◌==◌, Bool, not, List, [], ◌∷◌, map, bytes_eq, codes, if◌then◌else◌}
use Rattle.std.specs.List.{list_any}
use Rattle.sql_lex.specs.declared.token.TokenKind.{TokenKind}
use Rattle.sql_lex.specs.declared.token.TokenKind.TheVariants as token
use Rattle.sql_lex.specs.Bytes.{folded_byte}
use Rattle.sql_lex.specs.Lexemes.{Lexeme}
pub use Rattle.sql_grammar.specs.declared.kinds.Kind.{Kind}
pub use Rattle.sql_grammar.specs.declared.kinds.Kind.TheVariants.{All, And, As, Between, By, Constraint, Create, Cross, Distinct, Except, Exists, Foreign, From, Group, Having, In, Inner, Intersect, Join, Like, Not, Null, On, Or, Primary, References, Select, Table, Union, Unique, Where, Count, Sum, Avg, Min, Max, Key, View, Index, Word, Quoted, Number, Text, LeftOut, Open, Close, Comma, Semicolon, Dot, Star, Equals, Differs, Less, AtMost, Greater, AtLeast, Plus, Minus, Slash, Concat}

-- ---- the kind of a token

-- the reserved words that the grammar uses
abbrev pub used_kinds : List (List ℕ × Kind)
used_kinds =
    (codes "all", All) ∷ (codes "and", And) ∷ (codes "as", As) ∷ (codes "between", Between) ∷
    (codes "by", By) ∷ (codes "constraint", Constraint) ∷ (codes "create", Create) ∷ (codes "cross", Cross) ∷
    (codes "distinct", Distinct) ∷ (codes "except", Except) ∷ (codes "exists", Exists) ∷
    (codes "foreign", Foreign) ∷ (codes "from", From) ∷ (codes "group", Group) ∷ (codes "having", Having) ∷
    (codes "in", In) ∷ (codes "inner", Inner) ∷ (codes "intersect", Intersect) ∷ (codes "join", Join) ∷
    (codes "like", Like) ∷ (codes "not", Not) ∷ (codes "null", Null) ∷ (codes "on", On) ∷ (codes "or", Or) ∷
    (codes "primary", Primary) ∷ (codes "references", References) ∷ (codes "select", Select) ∷
    (codes "table", Table) ∷ (codes "union", Union) ∷ (codes "unique", Unique) ∷ (codes "where", Where) ∷ []

-- the reserved words that begin or name what the grammar leaves out
abbrev pub left_out_words : List (List ℕ)
left_out_words =
    codes "alter" ∷ codes "any" ∷ codes "asc" ∷ codes "case" ∷ codes "cast" ∷ codes "check" ∷ codes "collate" ∷
    codes "cube" ∷ codes "default" ∷ codes "delete" ∷ codes "desc" ∷ codes "else" ∷ codes "end" ∷ codes "escape" ∷
    codes "false" ∷ codes "fetch" ∷ codes "full" ∷ codes "grouping" ∷ codes "insert" ∷ codes "is" ∷ codes "lateral" ∷
    codes "left" ∷ codes "limit" ∷ codes "natural" ∷ codes "offset" ∷ codes "order" ∷ codes "outer" ∷ codes "over" ∷
    codes "recursive" ∷ codes "right" ∷ codes "rollup" ∷ codes "some" ∷ codes "then" ∷ codes "true" ∷ codes "update" ∷
    codes "using" ∷ codes "when" ∷ codes "window" ∷ codes "with" ∷ []

-- unreserved words that mean something at some places
abbrev pub special_kinds : List (List ℕ × Kind)
special_kinds =
    (codes "count", Count) ∷ (codes "sum", Sum) ∷ (codes "avg", Avg) ∷ (codes "min", Min) ∷
    (codes "max", Max) ∷ (codes "key", Key) ∷ (codes "view", View) ∷ (codes "index", Index) ∷ []

-- symbols
abbrev pub symbol_kinds : List (List ℕ × Kind)
symbol_kinds =
    (codes "(", Open) ∷ (codes ")", Close) ∷ (codes ",", Comma) ∷ (codes ";", Semicolon) ∷
    (codes ".", Dot) ∷ (codes "*", Star) ∷ (codes "=", Equals) ∷ (codes "<>", Differs) ∷
    (codes "!=", Differs) ∷ (codes "<", Less) ∷ (codes "<=", AtMost) ∷ (codes ">", Greater) ∷
    (codes ">=", AtLeast) ∷ (codes "+", Plus) ∷ (codes "-", Minus) ∷ (codes "/", Slash) ∷
    (codes "||", Concat) ∷ []

-- that of this text, or else the other
abbrev pub kind_in : List (List ℕ × Kind) → Kind → List ℕ → Kind
kind_in [] other text = other
kind_in (p ∷ rows) other text = if bytes_eq p.0 text then p.1 else kind_in rows other text

abbrev pub word_kind : List ℕ → Kind
word_kind word = kind_in used_kinds (if list_any (bytes_eq word) left_out_words then LeftOut else kind_in special_kinds Word word) word

abbrev pub kind_of : Lexeme → Kind
kind_of lexeme = by_class lexeme.kind
  where
    by_class : TokenKind → Kind
    by_class token.Word = word_kind (map folded_byte lexeme.text)
    by_class token.Quoted = Quoted
    by_class token.Number = Number
    by_class token.Text = Text
    by_class token.Symbol = kind_in symbol_kinds LeftOut lexeme.text

-- ---- sets of kinds

-- kinds are compared by number
abbrev pub number : Kind → ℕ
number All = 0
number And = 1
number As = 2
number Between = 3
number By = 4
number Constraint = 5
number Create = 6
number Cross = 7
number Distinct = 8
number Except = 9
number Exists = 10
number Foreign = 11
number From = 12
number Group = 13
number Having = 14
number In = 15
number Inner = 16
number Intersect = 17
number Join = 18
number Like = 19
number Not = 20
number Null = 21
number On = 22
number Or = 23
number Primary = 24
number References = 25
number Select = 26
number Table = 27
number Union = 28
number Unique = 29
number Where = 30
number Count = 31
number Sum = 32
number Avg = 33
number Min = 34
number Max = 35
number Key = 36
number View = 37
number Index = 38
number Word = 39
number Quoted = 40
number Number = 41
number Text = 42
number LeftOut = 43
number Open = 44
number Close = 45
number Comma = 46
number Semicolon = 47
number Dot = 48
number Star = 49
number Equals = 50
number Differs = 51
number Less = 52
number AtMost = 53
number Greater = 54
number AtLeast = 55
number Plus = 56
number Minus = 57
number Slash = 58
number Concat = 59

abbrev pub same : Kind → Kind → Bool
same a b = number a == number b

abbrev pub among : List Kind → Kind → Bool
among kinds k = list_any (λ a. same a k) kinds

-- each of them
abbrev pub every_kind : List Kind
every_kind = All ∷ And ∷ As ∷ Between ∷ By ∷ Constraint ∷ Create ∷ Cross ∷ Distinct ∷ Except ∷ Exists ∷ Foreign ∷
    From ∷ Group ∷ Having ∷ In ∷ Inner ∷ Intersect ∷ Join ∷ Like ∷ Not ∷ Null ∷ On ∷ Or ∷ Primary ∷ References ∷
    Select ∷ Table ∷ Union ∷ Unique ∷ Where ∷ Count ∷ Sum ∷ Avg ∷ Min ∷ Max ∷ Key ∷ View ∷ Index ∷ Word ∷ Quoted ∷
    Number ∷ Text ∷ LeftOut ∷ Open ∷ Close ∷ Comma ∷ Semicolon ∷ Dot ∷ Star ∷ Equals ∷ Differs ∷ Less ∷ AtMost ∷
    Greater ∷ AtLeast ∷ Plus ∷ Minus ∷ Slash ∷ Concat ∷ []

-- unreserved words and quoted names
abbrev pub name_kinds : List Kind
name_kinds = Word ∷ Count ∷ Sum ∷ Avg ∷ Min ∷ Max ∷ Key ∷ View ∷ Index ∷ Quoted ∷ []

-- unreserved words that name no aggregate
abbrev pub called_kinds : List Kind
called_kinds = Word ∷ Key ∷ View ∷ Index ∷ []

-- aggregates but for COUNT
abbrev pub other_aggregates : List Kind
other_aggregates = Sum ∷ Avg ∷ Min ∷ Max ∷ []

-- the signs of comparisons
abbrev pub comparisons : List Kind
comparisons = Equals ∷ Differs ∷ Less ∷ AtMost ∷ Greater ∷ AtLeast ∷ []

-- ---- words

-- A word is reserved where its kind is none of a name (SQL, ISO/IEC 9075-2, 5.2, as far as words are used here or left out by name).
abbrev pub is_reserved : List ℕ → Bool
is_reserved word = not (among name_kinds (word_kind word))

-- Words at which a refusal says that the grammar leaves them out: those of that list, and two that it uses in few places.
abbrev pub is_left_out : List ℕ → Bool
is_left_out word = list_any (bytes_eq word) (codes "all" ∷ codes "null" ∷ left_out_words)
