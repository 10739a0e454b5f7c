-- What trees in lists of numbers are, what it means to list them in postorder, and what figures say as links.
pub mod Trees
pub mod CellLinks
