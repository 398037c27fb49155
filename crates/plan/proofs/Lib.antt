-- What the proofs of the program cite. Input: of an input no more is read than the report looks at and one byte.
mod Input
