-- The words of which tags are made.
use Rattle.std.specs.Prelude.{ℕ, List, [], codes}
use Rattle.wd_markup.specs.declared.vocabulary.Tag.{Tag}
use Rattle.wd_markup.specs.declared.vocabulary.Tag.TheVariants.{Main, Header, Footer, Section, Division, TitleHeading, SectionHeading, PartHeading, Paragraph, Table, TableHead, TableBody, Row, HeadCell, DataCell, Numbered, Bulleted, Item, Preformatted, Code, Mark, Deleted, Inserted, Strong, Span, Details, Summary, Figure, Caption, Link}
use Rattle.wd_markup.specs.declared.vocabulary.Class.{Class}
use Rattle.wd_markup.specs.declared.vocabulary.Class.TheVariants as look

-- the names of HTML
abbrev pub tag_name : Tag → List ℕ
tag_name Main = codes "main"
tag_name Header = codes "header"
tag_name Footer = codes "footer"
tag_name Section = codes "section"
tag_name Division = codes "div"
tag_name TitleHeading = codes "h1"
tag_name SectionHeading = codes "h2"
tag_name PartHeading = codes "h3"
tag_name Paragraph = codes "p"
tag_name Table = codes "table"
tag_name TableHead = codes "thead"
tag_name TableBody = codes "tbody"
tag_name Row = codes "tr"
tag_name HeadCell = codes "th"
tag_name DataCell = codes "td"
tag_name Numbered = codes "ol"
tag_name Bulleted = codes "ul"
tag_name Item = codes "li"
tag_name Preformatted = codes "pre"
tag_name Code = codes "code"
tag_name Mark = codes "mark"
tag_name Deleted = codes "del"
tag_name Inserted = codes "ins"
tag_name Strong = codes "strong"
tag_name Span = codes "span"
tag_name Details = codes "details"
tag_name Summary = codes "summary"
tag_name Figure = codes "figure"
tag_name Caption = codes "figcaption"
tag_name Link = codes "a"

-- the attribute of a class, with the blank before it
abbrev pub class_words : Class → List ℕ
class_words look.Plain = []
class_words look.Deterministic = codes " class='deterministic'"
class_words look.Depends = codes " class='depends'"
class_words look.MayTie = codes " class='may-tie'"
class_words look.NotRead = codes " class='not-read'"
class_words look.Bar = codes " class='bar'"
class_words look.Legend = codes " class='legend'"
class_words look.Chip = codes " class='chip'"
class_words look.Scroll = codes " class='scroll'"
class_words look.Side = codes " class='side'"
class_words look.Soft = codes " class='soft'"
class_words look.Differs = codes " class='differs'"
class_words look.NumberDiffers = codes " class='number differs'"
class_words look.Null = codes " class='null'"
class_words look.Number = codes " class='number'"
class_words look.Caret = codes " class='caret'"
class_words look.Node = codes " class='node'"
class_words look.Does = codes " class='does'"
class_words look.Rule = codes " class='rule'"
class_words look.Open = codes " class='open'"
