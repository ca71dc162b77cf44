-- A row as the code has it, and the form that its operation gives it.
use Rattle.std.specs.Prelude.{ℕ, get_or}
use Rattle.paper.specs.Tables as T
use Rattle.paper.specs.Tables.{forms, number, read, minus, complement, binary, conversion, select, two, to, row}
use Rattle.rows.specs.declared.line.Form.{Form}
use Rattle.rows.specs.declared.line.Line.{Line}
use Rattle.rows.specs.declared.line.Line.TheVariants.{Number, Read, Minus, Complement, Select, Binary, Conversion}

-- what it says
abbrev pub said : Line → T.Line
said (Number t n) = number t n
said (Read t c) = read t (record { 0 = c })
said (Minus t a) = minus t (row a)
said (Complement t a) = complement t (row a)
said (Select t c a b) = select t (row c) (row a) (row b)
said (Binary o t a b) = binary o t (row a) (row b)
said (Conversion t u a) = conversion t u (row a)

-- what the rows of a form say, by a type and three operands
abbrev pub meant : Form → T.Form
meant Form.Number = λ t a b c. number t a
meant Form.Read = λ t a b c. read t (record { 0 = a })
meant Form.Minus = λ t a b c. minus t (row a)
meant Form.Complement = λ t a b c. complement t (row a)
meant Form.Select = λ t a b c. select t (row a) (row b) (row c)
meant (Form.Binary o) = two o
meant (Form.Conversion u) = to u
meant Form.Unknown = λ t a b c. number t 0

-- and those with an operation's number
abbrev pub form_of : ℕ → T.Form
form_of k = get_or forms k (λ t a b c. number t 0)
